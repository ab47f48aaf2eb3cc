-- The blocks so far, and those that are left; the tests so far pass, and those that are left decide. All have room.
use Rattle.record_body.proofs.Common.{◌≡◌, ◌+◌, ◌-◌, ◌*◌, ◌^◌, ◌≤◌}
use Rattle.std.proofs.Common.{vec_capacity, vec_len}
use Rattle.record_body.proofs.Steps.{SoFar, blocks_row}
use Rattle.record_body.proofs.reading_clips.read_blocks.Given as goal

abbrev pub invariant-loop-i : goal.invariant-loop-i
invariant-loop-i l =
    SoFar (blocks_row l.limits l.bytes l.several) l.row.count l.start l.row.at (l.row.count - l.i) l.before
    (l.row.at + 12 * l.i) l.blocks.items
    × (l.before ≤ 2 ^ 32)
    × (vec_len l.blocks ≡ l.i)
    × (l.row.count ≤ vec_capacity l.blocks)
