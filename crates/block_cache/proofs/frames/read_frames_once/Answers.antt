-- What stands in the file of a block of the disk are the summaries of its stretches, and it has no fault.
use Rattle.block_cache.proofs.Common.{arith, length, valid_result, frames_within}
use Rattle.block_cache.proofs.frames.read_frames_once.Goals as goal

pub returns-clause-valid : goal.returns-clause-valid
returns-clause-valid g c = λ xs told block len.
    let within = frames_within c.args.level c.args.block.len c.args.from (length c.args.out.now) c.requires.within in
    valid_result c.read_pages.result (g.S.Store.reads c.args.store.now) c.args.block.id c.args.block.len
    _ xs block len (omega (arith, within)) (c.read_pages.ensures.damaged told)
