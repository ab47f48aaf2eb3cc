-- The files are as they were.
use Rattle.block_cache.proofs.Common.{Bool, subst, sym, IsTrue, Files, IsCacheOf}
use Rattle.block_cache.proofs.reader.BlockReader.sync.Goals as goal

pub invariant_of-self : goal.invariant_of-self
invariant_of-self g c = record {
  right = λ still.
      let told : IsTrue (g.S.Store.tells c.args.self.now.store) =
      subst (λ (t : Bool). IsTrue t) c.sync_block.ensures.changed.tells still in
      subst (λ (files : Files). IsCacheOf files c.args.self.now.cache) (sym c.sync_block.ensures.reads)
      (c.args.self.now.right told);
}
