-- One block more is written.
use Rattle.record_body.proofs.Common.{◌+◌, ◌*◌, length, ap, arith, take_more, block_bytes}
use Rattle.record_body.proofs.Parts.{part_written}
use Rattle.record_body.proofs.writing.write_blocks.Goals as goal

pub loop-i-preserved : goal.loop-i-preserved
loop-i-preserved c =
    part_written block_bytes c.args.blocks.now c.loop-i.i _ (12 * c.loop-i.i) c.loop-i.out c.write_block.new.out _
    (take_more c.args.blocks.now c.loop-i.i _ (omega arith)) (omega arith) c.loop-i.invariant c.write_block.ensures
    (12 * (c.loop-i.i + 1)) (omega (arith, ap length c.write_block.ensures))
