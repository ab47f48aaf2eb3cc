-- The blocks so far are written.
use Rattle.record_body.proofs.Common.{◌≡◌, ◌*◌, take, flat_map, block_bytes}
use Rattle.record_body.proofs.writing.write_blocks.Given as goal

abbrev pub invariant-loop-i : goal.invariant-loop-i
invariant-loop-i l = take (12 * l.i) l.out ≡ flat_map block_bytes (take l.i l.blocks)
