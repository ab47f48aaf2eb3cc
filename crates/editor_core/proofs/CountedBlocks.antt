-- The blocks that a studio names are those that it counts.
use Rattle.editor_core.proofs.Common.{ℕ, ◌<◌, List, Option, Some, None, arith, Ghosts, Core, IsStudio}
use Rattle.std.proofs.Common.{◌↔◌}
use Rattle.block_ledger.specs.Counts.{IsNamed, AreNamed, occurrences}
use Rattle.editor_core.specs.Facts.{AreBlocksOf}
use Rattle.editor_state.proofs.Blocks.NamedBlocks.{counted_named, named_counted}

named_is : (o : Option ℕ) → IsNamed o ↔ (0 < occurrences o)
named_is None = ((λ h. absurd h), (λ h. absurd (omega (arith, h))))
named_is (Some n) = ((λ h. h), (λ h. h))

module _ {D : Type 0} (disk : Ghosts D) (s : Core D) (is : IsStudio disk s) (ids : List ℕ) where
  pub blocks_are : AreNamed s.counts ids → AreBlocksOf s ids
  blocks_are named = record {
    rising = named.rising;
    each = λ id.
        let there = named_is (s.counts id) in
        let each = named.each id in (
          (λ one. counted_named disk s is id (there.0 (each.0 one))),
          (λ some. each.1 (there.1 (named_counted disk s is id some))),
        );
  }

  pub are_named : AreBlocksOf s ids → AreNamed s.counts ids
  are_named blocks = record {
    rising = blocks.rising;
    each = λ id.
        let there = named_is (s.counts id) in
        let each = blocks.each id in (
          (λ one. there.1 (named_counted disk s is id (each.0 one))),
          (λ some. each.1 (counted_named disk s is id (there.0 some))),
        );
  }
