-- The tracks so far.
use Rattle.editor_core.proofs.Common.{◌≡◌, take, cut_in}
use Rattle.editor_core.proofs.events.list_tracks.Given as goal

abbrev pub invariant-rows : goal.invariant-rows
invariant-rows l = l.tracks.items ≡ take l.i (cut_in l.len l.samples l.gains l.sides)
