-- The buffer keeps its length.
use Rattle.std.proofs.Common.{◌≡◌, length}
use Rattle.project_folder.proofs.folder.Folder.read_in_turn.Given as goal

abbrev pub invariant-parts : goal.invariant-parts
invariant-parts g l = length l.out ≡ length l.fn.out
