-- The frames that were read are joined.
use Rattle.block_cache.proofs.Common.{◌∙◌, ap, arith, refl}
use Rattle.std.specs.Prelude.{fold}
use Rattle.peak_summary.specs.Peaks.{joined}
use Rattle.block_cache.proofs.PageLaws.{frame_part_read}
use Rattle.block_cache.proofs.frames.join_alone.Goals as goal

pub returns-clause-sum : goal.returns-clause-sum
returns-clause-sum g c = λ told.
    let files = g.S.Store.reads c.args.store.now in
    let p = c.args.part in
    c.join_run.ensures ∙ ap (fold joined c.args.before) (frame_part_read files files p.level p.block.id p.block.len
    p.from p.from 0 c.args.count c.args.count _ _ refl (omega arith) (omega arith) (c.in_default.ensures.frames told) refl)
