-- No page is of the block that was written.
use Rattle.editor_state.proofs.Blocks.CachePages.{right_by_block}
use Rattle.editor_core.proofs.buffers.BlockBuffers.write_new.Goals as goal

pub invariant_of-reader : goal.invariant_of-reader
invariant_of-reader g c = record {
  right = right_by_block g.S.Store _ c.args.reader.now.store c.write_new_block.new.store c.args.reader.now.cache
      c.args.block.now.id c.write_new_block.ensures.changed c.requires.pages c.args.reader.now.right;
}
