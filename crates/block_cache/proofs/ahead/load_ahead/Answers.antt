-- What was read is of the file, and its pages are kept.
use Rattle.block_cache.proofs.Common.{tells_on}
use Rattle.block_cache.proofs.CacheLaws.{keeps_turn}
use Rattle.block_cache.proofs.PageLaws.{frame_bytes_read}
use Rattle.block_cache.proofs.ahead.load_ahead.Goals as goal

pub returns-in-Ok-clause-cache : goal.returns-in-Ok-clause-cache
returns-in-Ok-clause-cache g c =
    let r = c.args.run in
    let kept = c.compare_kept.ensures.kept in
    let was = g.S.Store.reads c.args.store.now in
    keeps_turn _ _ _ c.args.cache.now c.compare_kept.new.cache c.keep_pages.new.cache c.compare_kept.ensures.cache
    (c.keep_pages.ensures (g.S.Store.tells c.args.store.now) was (λ told.
    let still = tells_on kept told in
    frame_bytes_read was (g.S.Store.reads c.compare_kept.new.store) r.level r.block r.from _
    c.read_compared_frame_bytes.new.out kept.same_reads (c.in_default.ensures.header told)
    (c.in-Ok.ensures.whole still) (c.in-Ok.ensures.bytes still)))
