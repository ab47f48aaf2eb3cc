-- How many files a reclaim lets go, by its limit.
use Rattle.editor_cleanup.proofs.Common.{◌≡◌, ◌⊎◌, inl, refl, sym, ap, ◌∙◌, subst, ℕ, ◌^◌, ◌≤◌, IsSome, List, length}
use Rattle.editor_cleanup.proofs.Common.{Option, Some, None, arith, IfSome, unwrap_or, ◌-◌, Ghosts, Core, IsStudio}
use Rattle.editor_cleanup.proofs.Common.{AreNext}
use Rattle.editor_cleanup.proofs.FreeIds.{next_few, next_most}

pub within : (limit : Option ℕ) (most n : ℕ) → most ≡ unwrap_or limit (2 ^ 64 - 1) → n ≤ most
    → IfSome limit (λ m. n ≤ m)
within None most n is le = tt
within (Some m) most n is le = omega (arith, is, le)

-- where as many went as the limit says, it is that of the caller: there are fewer ids than the greatest u64
pub all_of : {D : Type 0} (disk : Ghosts D) (old : Core D) → IsStudio disk old → (limit : Option ℕ) (ids : List ℕ)
    (end most : ℕ) → AreNext old.counts 0 ids end → most ≡ unwrap_or limit (2 ^ 64 - 1) → length ids ≡ most
    → {Left : Type 0} → (limit ≡ Some (length ids)) ⊎ Left
all_of disk old is None ids end most next limited full = absurd (omega (
  arith,
  next_few old.counts 0 ids end next,
  next_most old.counts old.next_block 0 ids end
      (λ id free. (is.given id (subst IsSome (sym free) refl)).1) (omega arith) next,
  full,
  limited,
  is.counters.block_most,
))
all_of disk old is (Some m) ids end most next limited full = inl (ap Some (sym (full ∙ limited)))
