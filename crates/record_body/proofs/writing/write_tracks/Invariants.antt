-- The tracks so far are written, and there is room for those that are left.
use Rattle.record_body.proofs.Common.{track_bytes}
use Rattle.record_body.proofs.Parts.{Written}
use Rattle.record_body.proofs.writing.write_tracks.Given as goal

abbrev pub invariant-loop-i : goal.invariant-loop-i
invariant-loop-i l = Written track_bytes l.point l.i l.at l.out
