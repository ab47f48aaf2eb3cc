-- Occurrences of ids, one after another.
use Rattle.std.proofs.Common.{◌≡◌, ⊎_elim, refl, ℕ, ◌+◌, ◌^◌, ◌≤◌, ◌<◌, List, [], ◌∷◌, subst}
use Rattle.std.proofs.Common.{◌++◌, length, sym, ◌∙◌, ap, arith, Option, Some, None, take, drop, get_or}
use Rattle.std.proofs.Common.{take-append-drop}
use Rattle.std.specs.Prelude.{IsSome, ◌↔◌}
use Rattle.std.proofs.lemmas.Bool.{cases_eq}
use Rattle.std.proofs.lemmas.List.{drop_more}
use Rattle.block_ledger.specs.Counts.{Counts, SetsCount, IsNamed, occurrences, times, one_more, one_less}
use Rattle.row_ledger.specs.Rows.{Held, AreThere, TableState, Comes, AreHad, uses_at}
use Rattle.row_ledger.proofs.{Sums.times_append, Turns.times_here, Turns.times_other}

pub more_of : (o : Option ℕ) → occurrences o + 1 < 2 ^ 128 → one_more o ≡ occurrences o + 1
more_of None few = omega arith
more_of (Some n) few = omega (arith, few)

pub less_of : (o : Option ℕ) → IsNamed o → one_less o + 1 ≡ occurrences o
less_of None named = absurd named
less_of (Some n) named = omega (arith, named)

pub some_of : (o : Option ℕ) → IsNamed o → IsSome o
some_of None named = absurd named
some_of (Some n) named = refl

pub named_of : (o : Option ℕ) → 0 < occurrences o → IsNamed o
named_of None h = absurd (omega (arith, h))
named_of (Some n) h = h

-- the count of an id that is there is set
set_there : (mid new : Counts) (x n : ℕ) → SetsCount mid new x (Some n) → IsSome (mid x) → (id : ℕ)
    → IsSome (new id) ↔ IsSome (mid id)
set_there mid new x n set some id = ⊎_elim
    (λ same. subst (λ (i : ℕ). IsSome (new i) ↔ IsSome (mid i)) same
    ((λ s. some), (λ s. subst IsSome (sym set.here) refl)))
    (λ ne. let e = set.others id (λ e. ne (sym e)) in (subst IsSome e, subst IsSome (sym e)))
    (cases_eq x id)

pub held_one : (mid new : Counts) (x : ℕ) → SetsCount mid new x (Some (one_more (mid x))) → IsSome (mid x)
    → occurrences (mid x) + 1 < 2 ^ 128 → Held mid new (x ∷ [])
held_one mid new x set some few = record {
  counts = λ id. ⊎_elim
      (λ same. subst (λ (i : ℕ). occurrences (new i) ≡ occurrences (mid i) + times i (x ∷ [])) same
      (omega (arith, ap occurrences set.here, more_of (mid x) few, times_here x x [] refl)))
      (λ ne. omega (arith, ap occurrences (set.others id (λ e. ne (sym e))), times_other id x [] ne))
      (cases_eq x id);
  there = set_there mid new x (one_more (mid x)) set some;
}

pub dropped_one : (mid new : Counts) (x : ℕ) → SetsCount mid new x (Some (one_less (mid x))) → IsNamed (mid x)
    → Held new mid (x ∷ [])
dropped_one mid new x set named = record {
  counts = λ id. ⊎_elim
      (λ same. subst (λ (i : ℕ). occurrences (mid i) ≡ occurrences (new i) + times i (x ∷ [])) same
      (omega (arith, ap occurrences set.here, less_of (mid x) named, times_here x x [] refl)))
      (λ ne. omega (arith, ap occurrences (set.others id (λ e. ne (sym e))), times_other id x [] ne))
      (cases_eq x id);
  there = λ id. let s = set_there mid new x (one_less (mid x)) set (some_of (mid x) named) id in (s.1, s.0);
}

pub held_append : (a b c : Counts) (xs ys : List ℕ) → Held a b xs → Held b c ys → Held a c (xs ++ ys)
held_append a b c xs ys one two = record {
  counts = λ id. omega (arith, one.counts id, two.counts id, times_append id xs ys);
  there = λ id. (
    λ s. (one.there id).0 ((two.there id).0 s),
    λ s. (two.there id).1 ((one.there id).1 s),
  );
}

-- what comes goes in the same order
pub dropped_append : (a b c : Counts) (xs ys : List ℕ) → Held b a xs → Held c b ys → Held c a (xs ++ ys)
dropped_append a b c xs ys one two = record {
  counts = λ id. omega (arith, one.counts id, two.counts id, times_append id xs ys);
  there = λ id. (
    λ s. (two.there id).0 ((one.there id).0 s),
    λ s. (one.there id).1 ((two.there id).1 s),
  );
}

pub times_at : (id : ℕ) (xs : List ℕ) (i : ℕ) → i < length xs
    → times id xs ≡ times id (take i xs) + times id (get_or xs i 0 ∷ []) + times id (drop (i + 1) xs)
times_at id xs i h =
    ap (times id) (sym (take-append-drop i xs))
    ∙ times_append id (take i xs) (drop i xs)
    ∙ omega (arith, ap (times id) (drop_more xs i 0 h), times_append id (get_or xs i 0 ∷ []) (drop (i + 1) xs))

-- the next id of some that are there
pub next_there : (old mid : Counts) (xs : List ℕ) (i : ℕ) → i < length xs → AreThere old xs
    → Held old mid (take i xs) → IsSome (mid (get_or xs i 0))
next_there old mid xs i h there held =
    let x = get_or xs i 0 in
    (held.there x).1 (there x (omega (arith, times_at x xs i h, times_here x x [] refl)))

pub next_few : (old mid : Counts) (xs : List ℕ) (i : ℕ) → i < length xs
    → ((id : ℕ) → occurrences (old id) + times id xs < 2 ^ 128) → Held old mid (take i xs)
    → occurrences (mid (get_or xs i 0)) + 1 < 2 ^ 128
next_few old mid xs i h few held =
    let x = get_or xs i 0 in
    omega (arith, few x, held.counts x, times_at x xs i h, times_here x x [] refl)

pub next_named : (old mid : Counts) (xs : List ℕ) (i : ℕ) → i < length xs
    → ((id : ℕ) → times id xs ≤ occurrences (old id)) → Held mid old (take i xs) → IsNamed (mid (get_or xs i 0))
next_named old mid xs i h had held =
    let x = get_or xs i 0 in
    named_of (mid x) (omega (arith, had x, held.counts x, times_at x xs i h, times_here x x [] refl))

-- the next row of some that lists have
pub next_used : (old mid : TableState) (ks : List ℕ) (i : ℕ) → i < length ks → AreHad old.rows ks
    → Comes mid old (take i ks) → 0 < uses_at mid.rows (get_or ks i 0)
next_used old mid ks i h had come =
    let k = get_or ks i 0 in
    omega (arith, had k, come.uses k, times_at k ks i h, times_here k k [] refl)
