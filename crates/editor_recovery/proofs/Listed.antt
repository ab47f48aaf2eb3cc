-- The first of rising numbers that passes a test.
use Rattle.editor_recovery.proofs.Common.{◌≡◌, ℕ, zero, suc, ◌≤◌, ◌<◌, Bool, true, false, cond, inl, inr, ⊎_elim, ◌⊎◌}
use Rattle.editor_recovery.proofs.Common.{List, [], ◌∷◌, Option, Some, None, refl, sym, ap, subst, ◌∙◌, arith}
use Rattle.editor_recovery.proofs.Common.{AllPairs-from_increasing, All-from_recursion, recursion_from_All}
use Rattle.editor_recovery.proofs.Common.{All-contains, Contains, find, AllByRecursion, IsStrictlyIncreasing, Files}
use Rattle.editor_recovery.proofs.Common.{AreFiles, is_foreign, NoForeign, IsAbove}
use Rattle.std.specs.{List.AllPairs}
use Rattle.editor_recovery.specs.Files.{IsFirstForeign, IsNextBlock}

pub contains_none : {X : Type 0} (x : X) → Contains [] x → ⊥
contains_none x (k, lt, e) = omega (arith, lt)

pub contains_cons : {X : Type 0} (x : X) (xs : List X) (o : X) → Contains (x ∷ xs) o → (x ≡ o) ⊎ Contains xs o
contains_cons x xs o (zero, lt, e) = inl e
contains_cons x xs o (suc k, lt, e) = inr (k, omega (arith, lt), e)

pub contains_here : {X : Type 0} (x : X) (xs : List X) → Contains (x ∷ xs) x
contains_here x xs = (0, omega arith, refl)

pub contains_there : {X : Type 0} (x : X) (xs : List X) (o : X) → Contains xs o → Contains (x ∷ xs) o
contains_there x xs o (k, lt, e) = (suc k, omega (arith, lt), e)

-- each is below those after it
abbrev pub Rises : List ℕ → Type 0
Rises [] = Unit {0}
Rises (x ∷ xs) = AllByRecursion (λ y. x < y) xs × Rises xs

rises_pairs : (xs : List ℕ) → AllPairs (λ x y. x < y) xs → Rises xs
rises_pairs [] pairs = tt
rises_pairs (x ∷ xs) pairs = (
  recursion_from_All (λ y. x < y) xs (λ k d lt. pairs 0 (suc k) d (omega arith) (omega (arith, lt))),
  rises_pairs xs (λ i j d lt within. pairs (suc i) (suc j) d (omega (arith, lt)) (omega (arith, within))),
)

pub rises : (xs : List ℕ) → IsStrictlyIncreasing xs → Rises xs
rises xs up = rises_pairs xs (AllPairs-from_increasing xs up)

above_head : (x : ℕ) (xs : List ℕ) (o : ℕ) → AllByRecursion (λ y. x < y) xs → Contains xs o → x < o
above_head x xs o all has = All-contains (λ y. x < y) xs o (All-from_recursion (λ y. x < y) xs all) has

record IsFirst (p : ℕ → Bool) (xs : List ℕ) (n : ℕ) : Type 0 where
  there : Contains xs n
  passes : p n ≡ true
  least : (o : ℕ) → Contains xs o → p o ≡ true → n ≤ o

head_first : (p : ℕ → Bool) (x : ℕ) (xs : List ℕ) → AllByRecursion (λ y. x < y) xs → p x ≡ true → IsFirst p (x ∷ xs) x
head_first p x xs all passed = record {
  there = contains_here x xs;
  passes = passed;
  least = λ o has po. ⊎_elim (λ same. omega (arith, same))
      (λ later. let up = above_head x xs o all later in omega (arith, up)) (contains_cons x xs o has);
}

later_first : (p : ℕ → Bool) (x : ℕ) (xs : List ℕ) (n : ℕ) → p x ≡ false → IsFirst p xs n → IsFirst p (x ∷ xs) n
later_first p x xs n failed first = record {
  there = contains_there x xs n first.there;
  passes = first.passes;
  least = λ o has po. ⊎_elim (λ same. let e : false ≡ true = sym failed ∙ ap p same ∙ po in absurd cc)
      (λ later. first.least o later po) (contains_cons x xs o has);
}

find_step : (b : Bool) (x n : ℕ) (rest : Option ℕ) → cond b (Some x) rest ≡ Some n
    → ((b ≡ true) × (x ≡ n)) ⊎ ((b ≡ false) × (rest ≡ Some n))
find_step true x n rest e = inl (refl, cc)
find_step false x n rest e = inr (refl, e)

find_first : (p : ℕ → Bool) (xs : List ℕ) (n : ℕ) → Rises xs → find p xs ≡ Some n → IsFirst p xs n
find_first p [] n up e = absurd cc
find_first p (x ∷ xs) n up e =
    ⊎_elim (λ here. subst (IsFirst p (x ∷ xs)) here.1 (head_first p x xs up.0 here.0))
    (λ later. later_first p x xs n later.0 (find_first p xs n up.1 later.1)) (find_step (p x) x n (find p xs) e)

none_step : (b : Bool) (x : ℕ) (rest : Option ℕ) → cond b (Some x) rest ≡ None → (b ≡ false) × (rest ≡ None)
none_step true x rest e = absurd cc
none_step false x rest e = (refl, e)

pub find_none : (p : ℕ → Bool) (xs : List ℕ) → find p xs ≡ None → (o : ℕ) → Contains xs o → p o ≡ true → ⊥
find_none p [] e o has po = contains_none o has
find_none p (x ∷ xs) e o has po =
    let parts = none_step (p x) x (find p xs) e in
    ⊎_elim (λ same. let f : false ≡ true = sym parts.0 ∙ ap p same ∙ po in absurd cc)
    (λ later. find_none p xs parts.1 o later po) (contains_cons x xs o has)

-- the first foreign file
pub first_foreign : (files : Files) (xs : List ℕ) (n : ℕ) → AreFiles files xs → IsStrictlyIncreasing xs
    → find is_foreign xs ≡ Some n → IsFirstForeign files n
first_foreign files xs n are up e =
    let first = find_first is_foreign xs n (rises xs up) e in
    record {
      there = (are n).0 first.there;
      foreign = first.passes;
      least = λ o has foreign. first.least o ((are o).1 has) foreign;
    }

pub no_foreign : (files : Files) (xs : List ℕ) → AreFiles files xs → find is_foreign xs ≡ None → NoForeign files
no_foreign files xs are e = λ o has foreign. find_none is_foreign xs e o ((are o).1 has) foreign

-- the next block by the files
pub next_block : (files : Files) (xs : List ℕ) (last next : ℕ) → AreFiles files xs → IsAbove xs last next
    → IsNextBlock files last next
next_block files xs last next are above = record {
  no_lower = above.no_lower;
  above = λ file has. above.above file ((are file).1 has);
  least = ⊎_elim (λ e. inl e) (λ f. inr (f.0, (are f.0).0 f.1, f.2)) above.least;
}
