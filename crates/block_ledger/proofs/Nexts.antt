-- The least id of count 0 from one on, by the leaves of a tree.
use Rattle.std.proofs.Common.{◌≡◌, ⊎_elim, ℕ, zero, suc, ◌+◌, ◌-◌, ◌≤◌, ◌<◌, Option, Some, None, List, [], ◌∷◌, length}
use Rattle.std.proofs.Common.{drop, map, get_or, sym, ◌∙◌, ap, arith, length-drop}
use Rattle.std.proofs.{lemmas.Bool.cases_eq, lemmas.Bool.cases_lt, lemmas.List.get_or-drop, lemmas.List.get_or_default}
use Rattle.std.specs.Prelude.{Contains, IsSomeAnd, IfSome, IfNone}
use Rattle.block_ledger.specs.Entries.{count_in, free_of, id_at, IsRising, IsLeaves, IsAt, IsFrom}
use Rattle.block_ledger.specs.{declared.entry.Entry.Entry, Counts.IsNextFree}
use Rattle.block_ledger.proofs.{Leaves.free_found, Leaves.free_is, Leaves.leaf_of, Rising.rising_at}

pub from_at : (es : List Entry) (from place : ℕ) → IsRising es → IsAt es from place → IsFrom es from place
from_at es from place rising at = record {
  within = omega (arith, at.within);
  below = λ j lt. omega (arith, rising_at es rising j place lt at.within, at.same);
  past = λ j le lt. ⊎_elim
      (λ same. omega (arith, ap (id_at es) same, at.same))
      (λ ne. omega (arith, rising_at es rising place j (omega (arith, le, ne)) lt, at.same))
      (cases_eq j place);
}

-- a leaf with an id is that of its entry
leaf_is : (es : List Entry) (k id : ℕ) → get_or (map free_of es) k None ≡ Some id → (k < length es) × (id_at es k ≡ id)
leaf_is [] k id is = absurd cc
leaf_is (e ∷ es) zero id is = (omega arith, (free_is e.count e.id id is).0)
leaf_is (e ∷ es) (suc k) id is = let more = leaf_is es k id is in (omega (arith, more.0), more.1)

module _ (es : List Entry) (leaves : List (Option ℕ)) (from place : ℕ) (rising : IsRising es)
    (few : length es ≤ length leaves) (match : IsLeaves es leaves) (is : IsFrom es from place) where
  -- where an id of the leaves from the place on is
  found_past : (id : ℕ) → Contains (drop place leaves) (Some id) → (count_in es id ≡ Some 0) × (from ≤ id)
  found_past id there =
      let lt : place + there.0 < length leaves = omega (arith, there.1, length-drop place leaves, few, is.within) in
      let here : get_or leaves (place + there.0) (Some id) ≡ Some id =
      sym (get_or-drop place leaves there.0 (Some id)) ∙ there.2 in
      let leaf = leaf_is es (place + there.0) id
      (sym (match (place + there.0)) ∙ get_or_default leaves (place + there.0) None (Some id) lt ∙ here) in (
        free_found es leaves id rising match (place + there.0, lt, here),
        omega (arith, is.past (place + there.0) (omega arith) leaf.0, leaf.1),
      )

  listed_past : (id : ℕ) → from ≤ id → count_in es id ≡ Some 0 → Contains (drop place leaves) (Some id)
  listed_past id past free =
      let there = leaf_of es id free in
      let leaf = leaf_is es there.0 id there.2 in
      let le : place ≤ there.0 = ⊎_elim
      (λ before. absurd (omega (arith, is.below there.0 before, leaf.1, past)))
      (λ le. le)
      (cases_lt there.0 place) in (
        there.0 - place,
        omega (arith, le, there.1, few, length-drop place leaves),
        get_or-drop place leaves (there.0 - place) (Some id)
            ∙ ap (λ (n : ℕ). get_or leaves n (Some id))
            (let e : place + (there.0 - place) ≡ there.0 = omega (arith, le) in e)
            ∙ get_or_default leaves there.0 (Some id) None (omega (arith, there.1, few)) ∙ match there.0 ∙ there.2,
      )

  -- what the leaves from the place on say
  pub next_found : (r : Option ℕ) → IfSome r (λ id. Contains (drop place leaves) (Some id))
      → ((id : ℕ) → Contains (drop place leaves) (Some id) → IsSomeAnd r (λ least. least ≤ id))
      → IfSome r (IsNextFree (count_in es) from)
  next_found None found least = tt
  next_found (Some id) found least =
      let both = found_past id found in record {
        free = both.0;
        past = both.1;
        least = λ other past free. least other (listed_past other past free);
      }

  pub next_none : (r : Option ℕ)
      → ((id : ℕ) → Contains (drop place leaves) (Some id) → IsSomeAnd r (λ least. least ≤ id))
      → IfNone r ((id : ℕ) → from ≤ id → count_in es id ≡ Some 0 → ⊥)
  next_none None least = λ id past free. least id (listed_past id past free)
  next_none (Some x) least = tt
