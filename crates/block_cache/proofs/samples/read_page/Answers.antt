-- A page that gives its place before others stays an entry.
use Rattle.block_cache.proofs.Common.{refl}
use Rattle.block_cache.proofs.CacheLaws.{keeps_same, keeps_turn, same_turn}
use Rattle.block_cache.proofs.samples.read_page.Goals as goal

pub returns-clause-cache : goal.returns-clause-cache
returns-clause-cache g c = keeps_turn _ _ _ c.args.cache.now c.take_page.new.cache c.release_read.new.cache
    c.take_page.ensures.cache (keeps_same c.release_read.ensures)

pub returns-clause-hit : goal.returns-clause-hit
returns-clause-hit g c = λ has.
    let on = c.take_page.ensures.hit has in
    (refl, on.1, same_turn _ _ _ on.2 c.release_read.ensures)
