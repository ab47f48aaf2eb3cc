-- A part of the page is answered.
use Rattle.block_cache.proofs.Common.{◌*◌, ◌/◌, ◌%◌, length, arith, common_steps, refl}
use Rattle.block_cache.proofs.PageLaws.{frame_part_read}
use Rattle.block_cache.proofs.frames.load_page.Goals as goal

pub returns-clause-frames : goal.returns-clause-frames
returns-clause-frames g c = λ told.
    let files = g.S.Store.reads c.args.store.now in
    frame_part_read files files c.args.level c.args.block.id c.args.block.len (256 * (c.args.from / 256)) c.args.from
    (c.args.from % 256) (length c.args.out.now) _ _ _ refl (omega arith)
    (grind (arith, common_steps)) (c.in_default.ensures.frames told) c.copy_run.ensures
