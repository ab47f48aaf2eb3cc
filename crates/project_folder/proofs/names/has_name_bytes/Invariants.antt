-- Those so far are all of names.
use Rattle.std.proofs.Common.{◌≡◌, true, take}
use Rattle.std.specs.List.{list_all}
use Rattle.pcm_base.specs.Form.{is_name_byte}
use Rattle.project_folder.proofs.names.has_name_bytes.Given as goal

abbrev pub invariant-loop-b : goal.invariant-loop-b
invariant-loop-b l = list_all is_name_byte (take l.b-index l.name) ≡ true
