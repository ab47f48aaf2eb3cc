-- The bytes that were read are those of the frames.
use Rattle.block_cache.proofs.Common.{tells_on}
use Rattle.block_cache.proofs.PageLaws.{run_read}
use Rattle.block_cache.proofs.frames.read_run.Goals as goal

pub returns-clause-frames : goal.returns-clause-frames
returns-clause-frames g c = λ told.
    let r = c.args.run in
    let still = tells_on c.compare_kept.ensures.kept told in
    run_read (g.S.Store.reads c.args.store.now) (g.S.Store.reads c.compare_kept.new.store) r.level r.block.id r.block.len
    r.from r.count _ c.read_compared_frame_bytes.new.out c.compare_kept.ensures.kept.same_reads c.requires.size
    (c.in_default-read_compared_frame_bytes.ensures.bytes still)
