-- The blocks so far, and those that are left; the tests so far pass, and those that are left decide.
use Rattle.record_body.proofs.Common.{◌≡◌, ◌+◌, ◌*◌, ◌^◌, ◌≤◌, blocks_len}
use Rattle.record_body.proofs.Steps.{SoFar, blocks_row}
use Rattle.record_body.proofs.reading_clips.read_rows.Given as goal

abbrev pub invariant-loop-left : goal.invariant-loop-left
invariant-loop-left l =
    SoFar (blocks_row l.limits l.bytes l.several) l.fn.row.count l.start l.fn.row.at l.left
    (l.start + blocks_len l.rows) l.at l.rows
    × (l.start + blocks_len l.rows ≤ 2 ^ 32)
    × (l.at + 12 * l.left ≡ l.fn.row.at + 12 * l.fn.row.count)

abbrev pub decreases-loop-left : goal.decreases-loop-left
decreases-loop-left l = l.left
