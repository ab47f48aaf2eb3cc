-- No page goes, and then no header.
use Rattle.block_cache.proofs.CacheLaws.{same_turn}
use Rattle.block_cache.proofs.samples.release_read.Goals as goal

pub returns-then-end-block-2 : goal.returns-then-end-block-2
returns-then-end-block-2 c = same_turn _ _ _ c.release_samples.ensures c.release_header.ensures
