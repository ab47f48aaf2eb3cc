-- A check changes nothing of the disk.
use Rattle.editor_core.proofs.Common.{right_before, tells_back}
use Rattle.editor_core.proofs.buffers.BlockBuffers.check.Goals as goal

pub invariant_of-reader : goal.invariant_of-reader
invariant_of-reader g c = record {
  right = λ still.
      let kept = c.check_block.ensures.kept in
      let told = tells_back kept still in
      right_before c.args.reader.now.store c.check_block.new.store c.args.reader.now.cache kept
      (c.args.reader.now.right told);
}
