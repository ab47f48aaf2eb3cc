-- What is found by an id among entries whose ids rise, and what an edit of them changes.
use Rattle.std.proofs.Common.{◌≡◌, ◌≢◌, ⊎_elim, ℕ, zero, suc, ◌≤◌, ◌<◌, Bool, cond, eqb, Option, Some, None, List, []}
use Rattle.std.proofs.Common.{◌∷◌, length, set, get_or, refl, sym, ◌∙◌, ap, subst, arith}
use Rattle.std.proofs.lemmas.Bool.{cases_eq, cases_lt, eq-eqb}
use Rattle.std.specs.List.{insert, filter}
use Rattle.block_ledger.specs.Entries.{count_in, id_at, IsRising, IsAt, IsGap, is_kept, with_count}
use Rattle.block_ledger.specs.{declared.entry.Entry.Entry, Counts.SetsCount, Counts.one_more}
use Rattle.block_ledger.proofs.Rising.{Above, rising_at, gap_tail}
use Rattle.pcm_base.proofs.ListFacts.{differ}

-- the first entry has the id, or another one
pub first_is : (e : Entry) (es : List Entry) (id : ℕ) → e.id ≡ id → count_in (e ∷ es) id ≡ e.count
first_is e es id same = rw (eq-eqb e.id id same) refl

pub first_not : (e : Entry) (es : List Entry) (id : ℕ) → e.id ≢ id → count_in (e ∷ es) id ≡ count_in es id
first_not e es id ne = rw (differ e.id id ne) refl

-- an id below all others is not there
pub absent_above : (x : ℕ) (es : List Entry) (id : ℕ) → Above x es → id ≤ x → count_in es id ≡ None
absent_above x [] id all le = refl
absent_above x (e ∷ es) id all le =
    first_not e es id (λ same. omega (arith, same, le, all.0)) ∙ absent_above x es id all.1 le

-- an id in the place of none
pub absent_gap : (es : List Entry) (id i : ℕ) → IsGap es id i → count_in es id ≡ None
absent_gap es id i gap = none es (λ j lt same. ⊎_elim
    (λ before. omega (arith, same, gap.below j before))
    (λ behind. omega (arith, same, gap.above j behind lt))
    (cases_lt j i))
  where
    none : (fs : List Entry) → ((j : ℕ) → j < length fs → id_at fs j ≢ id) → count_in fs id ≡ None
    none [] each = refl
    none (f ∷ fs) each = first_not f fs id (each 0 (omega arith)) ∙ none fs (λ j lt. each (suc j) (omega (arith, lt)))

-- the entry at a place is the one of its id
pub count_at : (es : List Entry) (i : ℕ) (d : Entry) → IsRising es → i < length es
    → count_in es (id_at es i) ≡ (get_or es i d).count
count_at [] i d rising lt = absurd (omega (arith, lt))
count_at (e ∷ es) zero d rising lt = first_is e es e.id refl
count_at (e ∷ es) (suc i) d rising lt =
    first_not e es (id_at es i) (λ same. omega (arith, same, rising_at (e ∷ es) rising 0 (suc i) (omega arith) lt))
    ∙ count_at es i d rising.1 (omega (arith, lt))

set_here : (es : List Entry) (i : ℕ) (new : Entry) → IsRising es → i < length es → new.id ≡ id_at es i
    → count_in (set es i new) new.id ≡ new.count
set_here [] i new rising lt same = absurd (omega (arith, lt))
set_here (e ∷ es) zero new rising lt same = first_is new es new.id refl
set_here (e ∷ es) (suc i) new rising lt same =
    first_not e (set es i new) new.id
    (λ is. omega (arith, is, same, rising_at (e ∷ es) rising 0 (suc i) (omega arith) lt))
    ∙ set_here es i new rising.1 (omega (arith, lt)) same

set_other : (es : List Entry) (i : ℕ) (new : Entry) (other : ℕ) → new.id ≡ id_at es i → other ≢ new.id
    → count_in (set es i new) other ≡ count_in es other
set_other [] i new other same ne = refl
set_other (e ∷ es) zero new other same ne =
    first_not new es other (λ is. ne (sym is)) ∙ sym (first_not e es other (λ is. ne (sym is ∙ sym same)))
set_other (e ∷ es) (suc i) new other same ne =
    ap (λ (c : Option ℕ). cond (eqb e.id other) e.count c) (set_other es i new other same ne)

-- a count that is written
pub sets_count : (es : List Entry) (i : ℕ) (new : Entry) → IsRising es → i < length es → new.id ≡ id_at es i
    → SetsCount (count_in es) (count_in (set es i new)) new.id new.count
sets_count es i new rising lt same =
    record { here = set_here es i new rising lt same; others = λ other ne. set_other es i new other same ne }

insert_here : (es : List Entry) (i : ℕ) (new : Entry) → IsGap es new.id i
    → count_in (insert es i new) new.id ≡ new.count
insert_here es zero new gap = first_is new es new.id refl
insert_here [] (suc i) new gap = first_is new [] new.id refl
insert_here (e ∷ es) (suc i) new gap = first_not e (insert es i new) new.id
    (λ same. omega (arith, same, gap.below 0 (omega arith))) ∙ insert_here es i new (gap_tail e es new.id i gap)

insert_other : (es : List Entry) (i : ℕ) (new : Entry) (other : ℕ) → other ≢ new.id
    → count_in (insert es i new) other ≡ count_in es other
insert_other es zero new other ne = first_not new es other (λ is. ne (sym is))
insert_other [] (suc i) new other ne = first_not new [] other (λ is. ne (sym is))
insert_other (e ∷ es) (suc i) new other ne =
    ap (λ (c : Option ℕ). cond (eqb e.id other) e.count c) (insert_other es i new other ne)

-- an id that is added
pub adds_count : (es : List Entry) (i : ℕ) (new : Entry) → IsGap es new.id i
    → SetsCount (count_in es) (count_in (insert es i new)) new.id new.count
adds_count es i new gap =
    record { here = insert_here es i new gap; others = λ other ne. insert_other es i new other ne }

-- without the entries that were taken out the counts are the same
pub count_filter : (es : List Entry) (id : ℕ) → IsRising es → count_in (filter is_kept es) id ≡ count_in es id
count_filter [] id rising = refl
count_filter (e ∷ es) id rising = by_count e.count refl (count_filter es id rising.1)
  where
    by_count : (c : Option ℕ) → e.count ≡ c → count_in (filter is_kept es) id ≡ count_in es id
        → count_in (filter is_kept (e ∷ es)) id ≡ count_in (e ∷ es) id
    by_count None is more = rw is (more ∙ ⊎_elim
        (λ same. absent_above e.id es id rising.0 (omega (arith, same))
        ∙ sym (ap (λ (b : Bool). cond b None (count_in es id)) (eq-eqb e.id id same)))
        (λ ne. sym (ap (λ (b : Bool). cond b None (count_in es id)) (differ e.id id ne)))
        (cases_eq e.id id))
    by_count (Some n) is more = rw is (ap (λ (c : Option ℕ). cond (eqb e.id id) (Some n) c) more)

-- the count that is read at an id's place
pub read_count : (es : List Entry) (id i : ℕ) (count : Option ℕ) → IsRising es → IsAt es id i
    → ((d : Entry) → count ≡ (get_or es i d).count) → count ≡ count_in es id
read_count es id i count rising here is =
    let none : Entry = record { id = 0; count = None } in
    is none ∙ sym (count_at es i none rising here.within) ∙ ap (count_in es) here.same

-- and one that is written there
pub put_count : (es new : List Entry) (id i : ℕ) (count : Option ℕ) → IsRising es → IsAt es id i
    → new ≡ set es i (with_count es i count) → SetsCount (count_in es) (count_in new) id count
put_count es new id i count rising here is =
    subst (λ (l : List Entry). SetsCount (count_in es) (count_in l) id count) (sym is)
    (subst (λ (x : ℕ). SetsCount (count_in es) (count_in (set es i (with_count es i count))) x count) here.same
    (sets_count es i (with_count es i count) rising here.within refl))

-- an id that is added has one occurrence more than none
pub add_count : (es new : List Entry) (id i : ℕ) → IsGap es id i → new ≡ insert es i (record {
  id = id;
  count = Some 1;
}) → SetsCount (count_in es) (count_in new) id (Some (one_more (count_in es id)))
add_count es new id i gap is =
    subst (λ (l : List Entry). SetsCount (count_in es) (count_in l) id (Some (one_more (count_in es id)))) (sym is)
    (subst (λ (c : Option ℕ). SetsCount (count_in es) (count_in (insert es i (record { id = id; count = Some 1 }))) id
    (Some (one_more c))) (sym (absent_gap es id i gap)) (adds_count es i (record { id = id; count = Some 1 }) gap))

-- an id that is not there has no count 0
pub no_zero : (count : Option ℕ) → count ≡ None → count ≡ Some 0 → ⊥
no_zero None none some = cc
no_zero (Some n) none some = cc

pub read_none : (es : List Entry) (id i : ℕ) → IsGap es id i → None ≡ count_in es id
read_none es id i gap = sym (absent_gap es id i gap)
