-- One page more is kept.
use Rattle.block_cache.proofs.CacheLaws.{keeps_same, keeps_turn, same_none}
use Rattle.block_cache.proofs.ahead.keep_pages.Goals as goal

pub loop-page-init : goal.loop-page-init
loop-page-init c = λ tells files read. keeps_same (same_none _)

pub loop-page-preserved : goal.loop-page-preserved
loop-page-preserved c = λ tells files read. keeps_turn _ _ _ _ _ _ (c.loop-page.invariant tells files read)
    (c.keep_page.ensures tells files read)
