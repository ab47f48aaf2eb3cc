-- Counts that a ledger has, and a number that none is above.
use Rattle.std.proofs.Common.{◌≡◌, ⊎_elim, ℕ, ◌+◌, ◌^◌, ◌<◌, Option, Some, None, List, [], ◌∷◌, refl, length, subst}
use Rattle.std.proofs.Common.{arith}
use Rattle.std.specs.Prelude.{IsSome, is_some, true}
use Rattle.std.proofs.lemmas.Bool.{cases_eq}
use Rattle.block_ledger.specs.Counts.{Counts, occurrences, times}
use Rattle.block_ledger.proofs.Times.{times_most, times_other}
use Rattle.row_ledger.specs.Rows.{AreThere, Held}
use Rattle.row_examples.specs.Bounds.{AreAtMost, AreAllThere}

-- the ids of a list, if there is one
abbrev pub some_ids : Option (List ℕ) → List ℕ
some_ids None = []
some_ids (Some ids) = ids

pub is_ids : (o : Option (List ℕ)) → is_some o ≡ true → o ≡ Some (some_ids o)
is_ids None is = absurd cc
is_ids (Some ids) is = refl

pub all_there : (cs : Counts) (ids : List ℕ) → AreAllThere cs ids → AreThere cs ids
all_there cs [] are = λ id some. absurd (omega (arith, some))
all_there cs (x ∷ xs) are = λ id some. ⊎_elim
    (λ same. subst (λ (i : ℕ). IsSome (cs i)) same are.0)
    (λ ne. all_there cs xs are.1 id (omega (arith, some, times_other id x xs ne)))
    (cases_eq x id)

-- a bound of all counts, and a list of ids more
pub list_few : (most sum : ℕ) (cs : Counts) (ids : List ℕ) → AreAtMost most cs → most + length ids ≡ sum
    → sum < 2 ^ 64 → (id : ℕ) → occurrences (cs id) + times id ids < 2 ^ 128
list_few most sum cs ids are is few = λ id. omega (arith, are id, is, few, times_most id ids)

pub list_bound : (most sum : ℕ) (old new : Counts) (ids : List ℕ) → AreAtMost most old → most + length ids ≡ sum
    → Held old new ids → AreAtMost sum new
list_bound most sum old new ids are is held = λ id. omega (arith, are id, is, held.counts id, times_most id ids)
