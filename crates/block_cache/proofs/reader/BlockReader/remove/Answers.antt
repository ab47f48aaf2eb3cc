-- The cache is right of the files that are left.
use Rattle.block_cache.proofs.Common.{Bool, subst, IsTrue}
use Rattle.block_cache.proofs.reader.BlockReader.remove.Goals as goal

pub invariant_of-self : goal.invariant_of-self
invariant_of-self g c = record {
  right = λ still.
      let told : IsTrue (g.S.Store.tells c.args.self.now.store) =
      subst (λ (t : Bool). IsTrue t) c.remove_block_cached.ensures.changed.tells still in
      c.remove_block_cached.ensures.right told (c.args.self.now.right told);
}
