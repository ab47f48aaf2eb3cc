-- The samples so far are those of the file, and no entry has come or gone.
use Rattle.block_cache.proofs.Common.{◌≤◌, ◌-◌, take, length, Files, IsCacheOf, SameCache, HasPart}
use Rattle.block_cache.proofs.samples_once.copy_kept.Given as goal

abbrev pub invariant-pages : goal.invariant-pages
invariant-pages l = record {
  within : l.done ≤ length l.out;
  there : (files : Files) → IsCacheOf files l.fn.cache → HasPart files l.block l.from l.done (take l.done l.out);
  same : SameCache l.fn.cache l.cache;
}

abbrev pub decreases-pages : goal.decreases-pages
decreases-pages l = length l.initial.out - l.done
