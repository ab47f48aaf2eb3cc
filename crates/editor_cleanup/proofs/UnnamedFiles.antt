-- Block files that nothing names.
use Rattle.editor_cleanup.proofs.Common.{◌≡◌, refl, sym, ap, subst, ℕ, zero, suc, ◌<◌, IsSome, Option, rules, Some}
use Rattle.editor_cleanup.proofs.Common.{None, arith, Ghosts, occurrences, IsDurable, IsStudio, named_blocks, Core}
use Rattle.editor_cleanup.proofs.Common.{times_named, IsUnnamed, FreesFiles, free_named}
use Rattle.editor_state.specs.{Removals.HasOnlyNamed}
use Rattle.editor_state.proofs.Blocks.{BlockNumbers.some_count, NamedBlocks.counted_most, NamedBlocks.named_counted}

-- whatever the disk tells
pub spared : {D : Type 0} (disk : Ghosts D) (s : Core D) → IsStudio disk s → (id : ℕ) → s.counts id ≡ Some 0
    → times_named id (named_blocks s) ≡ 0
spared disk s is id free = free_named disk s is id free

module _ {D : Type 0} (disk : Ghosts D) (s : Core D) (is : IsStudio disk s) (d : IsDurable disk s) where
  is_some : (o : Option ℕ) (n : ℕ) → o ≡ Some n → IsSome o
  is_some o n e = subst IsSome (sym e) refl

  pub free_unnamed : (id : ℕ) → s.counts id ≡ Some 0 → IsUnnamed disk s id
  free_unnamed id free =
      let bounds = is.given id (is_some (s.counts id) 0 free) in record {
        least = bounds.0;
        most = omega (arith, bounds.1, is.counters.block_most);
        file = (d.files id bounds.0 (omega (arith, bounds.1, is.counters.block_most))).0 (is_some (s.counts id) 0 free);
        unnamed = spared disk s is id free;
      }

  pub unnamed_free : (id : ℕ) → IsUnnamed disk s id → s.counts id ≡ Some 0
  unnamed_free id un =
      zero_of (s.counts id) ((d.files id un.least un.most).1 un.file)
      (omega (arith, counted_most disk s is id, un.unnamed))
    where
      zero_of : (o : Option ℕ) → IsSome o → occurrences o ≡ 0 → o ≡ Some 0
      zero_of None some none = absurd (cc some)
      zero_of (Some n) some none = ap Some none

  -- where no id has the count 0, each block file is named
  pub only_named : ((id : ℕ) → s.counts id ≡ Some 0 → ⊥) → HasOnlyNamed disk s
  only_named none id least most = (
    (λ file. positive file (times_named id (named_blocks s)) refl),
    (λ named. (d.files id least most).0 (some_count (s.counts id) (named_counted disk s is id named))),
  )
    where
      positive : IsSome (disk.reads s.store id) → (n : ℕ) → times_named id (named_blocks s) ≡ n
          → 0 < times_named id (named_blocks s)
      positive file zero e =
          absurd (none id (unnamed_free id (record { least = least; most = most; file = file; unnamed = e })))
      positive file (suc n) e = omega (arith, e)

-- what nothing names after some files went, nothing named before
module _ {D : Type 0} (disk : Ghosts D) (old new : Core D) where
  pub unnamed_before : named_blocks new ≡ named_blocks old → FreesFiles old.counts (disk.reads old.store)
      (disk.reads new.store) → (x : ℕ) → IsUnnamed disk new x → IsUnnamed disk old x
  unnamed_before same step x un = search rules
