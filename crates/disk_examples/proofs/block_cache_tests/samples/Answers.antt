-- A read leaves the cache right.
use Rattle.block_cache.proofs.CacheLaws.{cached_on}
use Rattle.disk_examples.proofs.block_cache_tests.samples.Goals as goal

pub returns : goal.returns
returns g c = cached_on c.args.store.now c.read_samples_cached.new.store _ c.args.cache.now
    c.read_samples_cached.new.cache
    c.read_samples_cached.ensures.kept c.read_samples_cached.ensures.cache c.requires.cached
