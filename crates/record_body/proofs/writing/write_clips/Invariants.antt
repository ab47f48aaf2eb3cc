-- The clips so far are written, and there is room for those that are left.
use Rattle.record_body.proofs.Common.{clip_bytes}
use Rattle.record_body.proofs.Parts.{Written}
use Rattle.record_body.proofs.writing.write_clips.Given as goal

abbrev pub invariant-loop-i : goal.invariant-loop-i
invariant-loop-i l = Written clip_bytes l.clips l.i l.at l.out
