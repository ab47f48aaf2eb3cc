-- A page that goes to the end stays.
use Rattle.block_cache.proofs.Common.{ap}
use Rattle.block_cache.proofs.KeyLaws.{demoted_same}
use Rattle.block_cache.proofs.pages.release_page.Goals as goal

pub returns-clause-same : goal.returns-clause-same
returns-clause-same g c = demoted_same c.args.key _ _ (ap (λ m. m.entries) c.demote.ensures.entries)
