-- What stands in the file of a block of the disk are the summaries of its stretches, and it has no fault.
use Rattle.block_cache.proofs.Common.{ℕ, ◌+◌, ◌-◌, arith, length, frame_count, frame_len, valid_result, frames_within}
use Rattle.block_cache.proofs.Common.{page_end}
use Rattle.block_cache.proofs.frames.read_frames_cached.Goals as goal

pub returns-clause-valid : goal.returns-clause-valid
returns-clause-valid g c = λ xs told block len.
    let end : ℕ = page_end 256 (frame_count (frame_len c.args.level) c.args.block.len) (c.args.from + length
    c.args.out.now - 1) in
    let within = frames_within c.args.level c.args.block.len 0 end (omega arith) in
    valid_result c.read_pages.result (g.S.Store.reads c.args.store.now) c.args.block.id c.args.block.len
    _ xs block len (omega (arith, within)) (c.read_pages.ensures.damaged told)
