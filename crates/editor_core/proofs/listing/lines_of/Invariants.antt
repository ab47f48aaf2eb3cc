-- The tracks so far.
use Rattle.editor_core.proofs.Common.{◌≡◌, map, take, line_of_track, meant}
use Rattle.pcm_base.specs.{Pieces.Sources}
use Rattle.editor_core.proofs.listing.lines_of.Given as goal

abbrev pub invariant-loop-i : goal.invariant-loop-i
invariant-loop-i l = (src : Sources) → l.lines.items ≡ map line_of_track (meant src (take l.i l.point))
