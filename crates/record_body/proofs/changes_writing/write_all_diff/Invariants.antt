-- The tracks so far are written, and there is room for those that are left.
use Rattle.record_body.proofs.Common.{diff_bytes}
use Rattle.record_body.proofs.Parts.{Written}
use Rattle.record_body.proofs.changes_writing.write_all_diff.Given as goal

abbrev pub invariant-loop-i : goal.invariant-loop-i
invariant-loop-i l = Written (diff_bytes l.current) l.point l.i l.at l.out
