-- The ids of a ledger whose counts pass a test, listed once each and rising.
use Rattle.std.proofs.Common.{◌≡◌, ◌≢◌, ◌⊎◌, inl, inr, ⊎_elim, ℕ, zero, suc, ◌+◌, ◌≤◌, Bool, true, false, Option, Some}
use Rattle.std.proofs.Common.{None, is_some, List, [], ◌∷◌, length, map, take, refl, sym, ◌∙◌, ap, arith}
use Rattle.std.proofs.{lemmas.Bool.cases_eq, lemmas.List.length-map, lemmas.List.length-take}
use Rattle.std.proofs.{lemmas.List.Sums.length-filter, lemmas.List.Sums.count_by-le-length}
use Rattle.std.specs.{Prelude.Contains, Prelude.◌↔◌, List.filter, List.Sorted.IsStrictlyIncreasing}
use Rattle.block_ledger.specs.Entries.{count_in, id_of, IsRising, occurs, is_kept, is_named}
use Rattle.block_ledger.specs.{declared.entry.Entry.Entry, Counts.IsNamed, Counts.AreNamed, Counts.AreThere}
use Rattle.block_ledger.proofs.Rising.{rising_at, rising_filter}
use Rattle.block_ledger.proofs.Lookups.{absent_above, first_is, first_not}
use mathlib.Core.Bool.{false≢true}

pub contains_cases : (x y : ℕ) (xs : List ℕ) → Contains (x ∷ xs) y → (x ≡ y) ⊎ Contains xs y
contains_cases x y xs (zero, lt, is) = inl is
contains_cases x y xs (suc k, lt, is) = inr (k, omega (arith, lt), is)

pub contains_more : (x y : ℕ) (xs : List ℕ) → Contains xs y → Contains (x ∷ xs) y
contains_more x y xs there = (suc there.0, omega (arith, there.1), there.2)

module _ (test : Option ℕ → Bool) (none : test None ≡ false) where
  -- the ids whose counts pass a test that an id which is not there fails
  abbrev pub listed : List Entry → List ℕ
  listed es = map id_of (filter (λ e. test e.count) es)

  -- an id that passes among the rest is not the first
  behind : (e : Entry) (es : List Entry) (id : ℕ) → IsRising (e ∷ es) → test (count_in es id) ≡ true
      → test (count_in (e ∷ es) id) ≡ true
  behind e es id rising passes = ⊎_elim
      (λ same. absurd
      (false≢true (sym none ∙ ap test (sym (absent_above e.id es id rising.0 (omega (arith, same)))) ∙ passes)))
      (λ ne. ap test (first_not e es id ne) ∙ passes)
      (cases_eq e.id id)

  listed_passes : (es : List Entry) (id : ℕ) → IsRising es → Contains (listed es) id → test (count_in es id) ≡ true
  listed_passes [] id rising there = absurd (omega (arith, there.1))
  listed_passes (e ∷ es) id rising there =
      by_test (test e.count) refl (λ more. behind e es id rising (listed_passes es id rising.1 more))
    where
      by_test : (b : Bool) → test e.count ≡ b → (Contains (listed es) id → test (count_in (e ∷ es) id) ≡ true)
          → test (count_in (e ∷ es) id) ≡ true
      by_test false is rest = rest (rw is at there)
      by_test true is rest = ⊎_elim (λ same. ap test (first_is e es id same) ∙ is) rest
          (contains_cases e.id id (listed es) (rw is at there))

  passes_listed : (es : List Entry) (id : ℕ) → test (count_in es id) ≡ true → Contains (listed es) id
  passes_listed [] id passes = absurd (false≢true (sym none ∙ passes))
  passes_listed (e ∷ es) id passes =
      by_test (test e.count) refl (λ ne. passes_listed es id (ap test (sym (first_not e es id ne)) ∙ passes))
    where
      by_test : (b : Bool) → test e.count ≡ b → (e.id ≢ id → Contains (listed es) id) → Contains (listed (e ∷ es)) id
      by_test false is other = rw is (⊎_elim
          (λ same. absurd (false≢true (sym is ∙ ap test (sym (first_is e es id same)) ∙ passes)))
          other
          (cases_eq e.id id))
      by_test true is other = rw is (⊎_elim (λ same. (0, omega arith, same))
          (λ ne. contains_more e.id id (listed es) (other ne)) (cases_eq e.id id))

  listed_rises : (es : List Entry) → IsRising es → IsStrictlyIncreasing (listed es)
  listed_rises es rising = λ k lt.
      rising_at (filter (λ e. test e.count) es) (rising_filter (λ e. test e.count) es rising) k (k + 1) (omega arith)
      (omega (arith, lt, length-map (filter (λ e. test e.count) es) id_of))

occurs_named : (o : Option ℕ) → occurs o ≡ true ↔ IsNamed o
occurs_named None = (λ h. absurd (false≢true h), λ h. absurd h)
occurs_named (Some zero) = (λ h. absurd (false≢true h), λ h. absurd (omega (arith, h)))
occurs_named (Some (suc n)) = (λ h. omega arith, λ h. refl)

abbrev pub named_in : List Entry → List ℕ
named_in es = map id_of (filter is_named es)

abbrev pub there_in : List Entry → List ℕ
there_in es = map id_of (filter is_kept es)

pub are_named : (es : List Entry) → IsRising es → AreNamed (count_in es) (named_in es)
are_named es rising = record {
  rising = listed_rises occurs refl es rising;
  each = λ id. (
    λ there. (occurs_named (count_in es id)).0 (listed_passes occurs refl es id rising there),
    λ named. passes_listed occurs refl es id ((occurs_named (count_in es id)).1 named),
  );
}

pub are_there : (es : List Entry) → IsRising es → AreThere (count_in es) (there_in es)
are_there es rising = record {
  rising = listed_rises is_some refl es rising;
  each = λ id. (λ there. listed_passes is_some refl es id rising there, λ some. passes_listed is_some refl es id some);
}

-- what passes among the first of some entries
pub passed_most : (test : Entry → Bool) (es : List Entry) (n : ℕ) → length (filter test (take n es)) ≤ n
passed_most test es n =
    omega (arith, length-filter test (take n es), count_by-le-length test (take n es), length-take n es)

pub filter_twice : (test : Entry → Bool) (es : List Entry) → filter test (filter test es) ≡ filter test es
filter_twice test [] = refl
filter_twice test (e ∷ es) = by_test (test e) refl (filter_twice test es)
  where
    by_test : (b : Bool) → test e ≡ b → filter test (filter test es) ≡ filter test es
        → filter test (filter test (e ∷ es)) ≡ filter test (e ∷ es)
    by_test false is rest = rw is rest
    by_test true is rest = rw (is, is) (ap (λ fs. e ∷ fs) rest)
