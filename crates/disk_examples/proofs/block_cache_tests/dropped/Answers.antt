-- So does a removal.
use Rattle.std.proofs.Common.{Bool, subst}
use Rattle.std.specs.Prelude.{IsTrue}
use Rattle.disk_examples.proofs.block_cache_tests.dropped.Goals as goal

pub returns : goal.returns
returns g c = λ still.
    let told = subst (λ (t : Bool). IsTrue t) c.remove_block_cached.ensures.changed.tells still in
    c.remove_block_cached.ensures.right told (c.requires.cached told)
