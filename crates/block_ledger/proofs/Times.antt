-- A fresh count over a list of ids, as an occurrence comes or goes.
use Rattle.std.proofs.Common.{◌≡◌, ◌≢◌, ⊎_elim, refl, ℕ, ◌+◌, ◌-◌, ◌^◌, ◌≤◌, ◌<◌, Option, Some, None, List, [], ◌∷◌}
use Rattle.std.proofs.Common.{◌++◌, length, sym, ◌∙◌, ap, arith}
use Rattle.std.proofs.lemmas.Bool.{cases_eq, eq-eqb}
use Rattle.block_ledger.specs.Counts.{Counts, SetsCount, one_more, one_less, occurrences, times, IsFreshCount}
use Rattle.pcm_base.proofs.ListFacts.{differ}

pub times_append : (id : ℕ) (xs ys : List ℕ) → times id (xs ++ ys) ≡ times id xs + times id ys
times_append id [] ys = omega arith
times_append id (x ∷ xs) ys = omega (arith, times_append id xs ys)

pub times_here : (id x : ℕ) (xs : List ℕ) → x ≡ id → times id (x ∷ xs) ≡ times id xs + 1
times_here id x xs same = rw (eq-eqb x id same) (omega arith)

pub times_other : (id x : ℕ) (xs : List ℕ) → x ≢ id → times id (x ∷ xs) ≡ times id xs
times_other id x xs ne = rw (differ x id ne) (omega arith)

pub times_most : (id : ℕ) (xs : List ℕ) → times id xs ≤ length xs
times_most id [] = omega arith
times_most id (x ∷ xs) = ⊎_elim
    (λ same. omega (arith, times_here id x xs same, times_most id xs))
    (λ ne. omega (arith, times_other id x xs ne, times_most id xs))
    (cases_eq x id)

more_of : (o : Option ℕ) → occurrences o + 1 < 2 ^ 128 → occurrences (Some (one_more o)) ≡ occurrences o + 1
more_of None few = omega arith
more_of (Some n) few = omega (arith, few)

less_of : (o : Option ℕ) (n : ℕ) → occurrences o ≡ n + 1 → occurrences (Some (one_less o)) ≡ n
less_of None n is = absurd (omega (arith, is))
less_of (Some k) n is = omega (arith, is)

pub fresh_more : (ids : List ℕ) (old new : Counts) (id : ℕ) → length ids < 2 ^ 128 - 1
    → SetsCount old new id (Some (one_more (old id)))
    → IsFreshCount ids old → IsFreshCount (id ∷ ids) new
fresh_more ids old new id few set fresh = λ other. ⊎_elim
    (λ same. ap (λ (i : ℕ). occurrences (new i)) (sym same) ∙ ap occurrences set.here
    ∙ more_of (old id) (omega (arith, fresh id, times_most id ids, few))
    ∙ omega (arith, ap (λ (i : ℕ). occurrences (old i)) same, fresh other, times_here other id ids same))
    (λ ne. ap occurrences (set.others other (λ is. ne (sym is))) ∙ fresh other ∙ sym (times_other other id ids ne))
    (cases_eq id other)

pub fresh_less : (ids : List ℕ) (old new : Counts) (id : ℕ) → SetsCount old new id (Some (one_less (old id)))
    → IsFreshCount (id ∷ ids) old → IsFreshCount ids new
fresh_less ids old new id set fresh = λ other. ⊎_elim
    (λ same. ap (λ (i : ℕ). occurrences (new i)) (sym same) ∙ ap occurrences set.here
    ∙ less_of (old id) (times id ids) (omega (arith, fresh id, times_here id id ids refl))
    ∙ ap (λ (i : ℕ). times i ids) same)
    (λ ne. ap occurrences (set.others other (λ is. ne (sym is))) ∙ fresh other ∙ times_other other id ids ne)
    (cases_eq id other)

pub fresh_gone : (ids : List ℕ) (old new : Counts) (id : ℕ) → old id ≡ Some 0 → SetsCount old new id None
    → IsFreshCount ids old → IsFreshCount ids new
fresh_gone ids old new id free set fresh = λ other. ⊎_elim
    (λ same. ap (λ (i : ℕ). occurrences (new i)) (sym same) ∙ ap occurrences set.here ∙ sym (ap occurrences free)
    ∙ ap (λ (i : ℕ). occurrences (old i)) same ∙ fresh other)
    (λ ne. ap occurrences (set.others other (λ is. ne (sym is))) ∙ fresh other)
    (cases_eq id other)
