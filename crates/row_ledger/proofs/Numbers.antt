-- Lists by number, as one comes or goes.
use Rattle.std.proofs.Common.{◌≡◌, ◌≢◌, ⊎_elim, refl, ℕ, zero, suc, ◌+◌, ◌<◌, List, [], ◌∷◌, subst, cond, eqb}
use Rattle.std.proofs.Common.{◌++◌, length, sym, ◌∙◌, ap, arith, get_or, Option, Some, None}
use Rattle.std.proofs.Common.{Result, Ok, Err}
use Rattle.std.specs.Prelude.{IfErr, IfOk, OnErr, is_ok, is_some, true}
use Rattle.std.proofs.lemmas.Bool.{cases_eq, cases_lt, eq-eqb}
use Rattle.std.specs.List.{AllByRecursion, insert, remove}
use Rattle.pcm_base.proofs.ListFacts.{differ}
use Rattle.block_ledger.specs.Counts.{times}
use Rattle.row_ledger.specs.declared.row.{Row.Row, Listed.Listed}
use Rattle.row_ledger.specs.Rows.{flat, Keeps, AreUsed}
use Rattle.row_ledger.specs.Lists.{listed, all_rows, number_at, IsAt, IsGap, IsRising}
use Rattle.row_ledger.proofs.{Rising.Above, Rising.gap_tail, Sums.times_append, Turns.flat_kept}

pub listed_is : (rows : List Row) (l : Listed) (ls : List Listed) (n : ℕ) → l.number ≡ n
    → listed rows (l ∷ ls) n ≡ Some (flat rows l.rows.items)
listed_is rows l ls n e = rw (eq-eqb l.number n e) refl

pub listed_not : (rows : List Row) (l : Listed) (ls : List Listed) (n : ℕ) → l.number ≢ n
    → listed rows (l ∷ ls) n ≡ listed rows ls n
listed_not rows l ls n ne = rw (differ l.number n ne) refl

used_front : (rows : List Row) (xs ys : List ℕ) → AreUsed rows (xs ++ ys) → AreUsed rows xs
used_front rows xs ys used = λ k some. used k (omega (arith, times_append k xs ys, some))

used_back : (rows : List Row) (xs ys : List ℕ) → AreUsed rows (xs ++ ys) → AreUsed rows ys
used_back rows xs ys used = λ k some. used k (omega (arith, times_append k xs ys, some))

-- lists whose rows stay
pub listed_kept : (old new : List Row) (ls : List Listed) (n : ℕ) → Keeps old new → AreUsed old (all_rows ls)
    → listed new ls n ≡ listed old ls n
listed_kept old new [] n keeps used = refl
listed_kept old new (l ∷ ls) n keeps used =
    let here = flat_kept old new l.rows.items keeps (used_front old l.rows.items (all_rows ls) used) in
    let more = listed_kept old new ls n keeps (used_back old l.rows.items (all_rows ls) used) in
    ap (λ (xs : List ℕ). cond (eqb l.number n) (Some xs) (listed new ls n)) here
    ∙ ap (λ (o : Option (List ℕ)). cond (eqb l.number n) (Some (flat old l.rows.items)) o) more

-- no list has a number that would go to a place between
pub gap_none : (rows : List Row) (ls : List Listed) (n i : ℕ) → IsGap ls n i → listed rows ls n ≡ None
gap_none rows ls n i gap = none ls (λ j lt same. ⊎_elim
    (λ before. omega (arith, same, gap.below j before))
    (λ behind. omega (arith, same, gap.above j behind lt))
    (cases_lt j i))
  where
    none : (ms : List Listed) → ((j : ℕ) → j < length ms → number_at ms j ≢ n) → listed rows ms n ≡ None
    none [] each = refl
    none (m ∷ ms) each =
        listed_not rows m ms n (each 0 (omega arith)) ∙ none ms (λ j lt. each (suc j) (omega (arith, lt)))

-- a list that comes
pub insert_here : (rows : List Row) (ls : List Listed) (i : ℕ) (l : Listed) → IsGap ls l.number i
    → listed rows (insert ls i l) l.number ≡ Some (flat rows l.rows.items)
insert_here rows ls zero l gap = listed_is rows l ls l.number refl
insert_here rows [] (suc i) l gap = listed_is rows l [] l.number refl
insert_here rows (m ∷ ls) (suc i) l gap =
    listed_not rows m (insert ls i l) l.number (λ same. omega (arith, same, gap.below 0 (omega arith)))
    ∙ insert_here rows ls i l (gap_tail m ls l.number i gap)

pub insert_other : (rows : List Row) (ls : List Listed) (i : ℕ) (l : Listed) (n : ℕ) → n ≢ l.number
    → listed rows (insert ls i l) n ≡ listed rows ls n
insert_other rows ls zero l n ne = listed_not rows l ls n (λ e. ne (sym e))
insert_other rows [] (suc i) l n ne = listed_not rows l [] n (λ e. ne (sym e))
insert_other rows (m ∷ ls) (suc i) l n ne =
    ap (λ (o : Option (List ℕ)). cond (eqb m.number n) (Some (flat rows m.rows.items)) o) (insert_other rows ls i l n ne)

pub insert_all : (ls : List Listed) (i : ℕ) (l : Listed) (k : ℕ)
    → times k (all_rows (insert ls i l)) ≡ times k (all_rows ls) + times k l.rows.items
insert_all ls zero l k = omega (arith, times_append k l.rows.items (all_rows ls))
insert_all [] (suc i) l k = omega (arith, times_append k l.rows.items [])
insert_all (m ∷ ls) (suc i) l k = omega (
  arith,
  times_append k m.rows.items (all_rows (insert ls i l)),
  times_append k m.rows.items (all_rows ls),
  insert_all ls i l k,
)

-- no list of these has the number
abbrev pub Lacks : List Listed → ℕ → Type 0
Lacks ls n = AllByRecursion (λ (m : Listed). m.number ≢ n) ls

pub none_lacks : (rows : List Row) (ls : List Listed) (n : ℕ) → Lacks ls n → listed rows ls n ≡ None
none_lacks rows [] n lacks = refl
none_lacks rows (m ∷ ls) n lacks = listed_not rows m ls n lacks.0 ∙ none_lacks rows ls n lacks.1

-- no number comes twice
abbrev pub AreDistinct : List Listed → Type 0
AreDistinct [] = Unit {0}
AreDistinct (l ∷ ls) = Lacks ls l.number × AreDistinct ls

above_lacks : (ls : List Listed) (n : ℕ) → Above n ls → Lacks ls n
above_lacks [] n all = tt
above_lacks (m ∷ ls) n all = ((λ same. omega (arith, same, all.0)), above_lacks ls n all.1)

pub are_distinct : (ls : List Listed) → IsRising ls → AreDistinct ls
are_distinct [] rising = tt
are_distinct (m ∷ ls) rising = (above_lacks ls m.number rising.0, are_distinct ls rising.1)

-- the list at a place
abbrev pub IsPlaced : List Listed → ℕ → Listed → Type 0
IsPlaced [] i l = ⊥
IsPlaced (m ∷ ls) zero l = m ≡ l
IsPlaced (m ∷ ls) (suc i) l = IsPlaced ls i l

pub placed : (ls : List Listed) (i : ℕ) (d : Listed) → i < length ls → IsPlaced ls i (get_or ls i d)
placed [] i d h = absurd (omega (arith, h))
placed (m ∷ ls) zero d h = refl
placed (m ∷ ls) (suc i) d h = placed ls i d (omega (arith, h))

pub without_all : (ls : List Listed) (i : ℕ) (l : Listed) (k : ℕ) → IsPlaced ls i l
    → times k (all_rows (remove ls i)) + times k l.rows.items ≡ times k (all_rows ls)
without_all [] i l k at = absurd at
without_all (m ∷ ls) zero l k at =
    omega (arith, times_append k m.rows.items (all_rows ls), ap (λ (x : Listed). times k x.rows.items) at)
without_all (m ∷ ls) (suc i) l k at = omega (
  arith,
  times_append k m.rows.items (all_rows ls),
  times_append k m.rows.items (all_rows (remove ls i)),
  without_all ls i l k at,
)

pub without_other : (rows : List Row) (ls : List Listed) (i : ℕ) (l : Listed) (n : ℕ) → IsPlaced ls i l
    → n ≢ l.number → listed rows (remove ls i) n ≡ listed rows ls n
without_other rows [] i l n at ne = absurd at
without_other rows (m ∷ ls) zero l n at ne =
    sym (listed_not rows m ls n (λ e. ne (sym e ∙ ap (λ (x : Listed). x.number) at)))
without_other rows (m ∷ ls) (suc i) l n at ne =
    ap (λ (o : Option (List ℕ)). cond (eqb m.number n) (Some (flat rows m.rows.items)) o)
    (without_other rows ls i l n at ne)

lacks_at : (ls : List Listed) (i n : ℕ) (l : Listed) → Lacks ls n → IsPlaced ls i l → l.number ≢ n
lacks_at [] i n l lacks at = absurd at
lacks_at (m ∷ ls) zero n l lacks at = subst (λ (x : Listed). x.number ≢ n) at lacks.0
lacks_at (m ∷ ls) (suc i) n l lacks at = lacks_at ls i n l lacks.1 at

pub without_here : (ls : List Listed) (i : ℕ) (l : Listed) → AreDistinct ls → IsPlaced ls i l
    → Lacks (remove ls i) l.number
without_here [] i l all at = absurd at
without_here (m ∷ ls) zero l all at = subst (λ (x : Listed). Lacks ls x.number) at all.0
without_here (m ∷ ls) (suc i) l all at =
    ((λ e. lacks_at ls i m.number l all.0 at (sym e)), without_here ls i l all.1 at)

-- the list of a number, at its place
pub placed_list : (rows : List Row) (ls : List Listed) (i : ℕ) (l : Listed) → AreDistinct ls → IsPlaced ls i l
    → listed rows ls l.number ≡ Some (flat rows l.rows.items)
placed_list rows [] i l all at = absurd at
placed_list rows (m ∷ ls) zero l all at =
    subst (λ (x : Listed). listed rows (m ∷ ls) x.number ≡ Some (flat rows x.rows.items)) at
    (listed_is rows m ls m.number refl)
placed_list rows (m ∷ ls) (suc i) l all at =
    listed_not rows m ls l.number (λ e. lacks_at ls i m.number l all.0 at (sym e))
    ∙ placed_list rows ls i l all.1 at

-- a number with a place has a list
pub at_some : (rows : List Row) (ls : List Listed) (n i : ℕ) → IsAt ls n i → listed rows ls n ≡ None → ⊥
at_some rows [] n i at none = absurd (omega (arith, at.within))
at_some rows (l ∷ ls) n zero at none =
    clash (listed rows (l ∷ ls) n) (flat rows l.rows.items) none (listed_is rows l ls n at.same)
  where
    clash : (o : Option (List ℕ)) (xs : List ℕ) → o ≡ None → o ≡ Some xs → ⊥
    clash o xs e f = cc
at_some rows (l ∷ ls) n (suc i) at none = ⊎_elim
    (λ same. clash (listed rows (l ∷ ls) n) (flat rows l.rows.items) none (listed_is rows l ls n same))
    (λ ne. at_some rows ls n i (record { within = omega (arith, at.within); same = at.same })
    (sym (listed_not rows l ls n ne) ∙ none))
    (cases_eq l.number n)
  where
    clash : (o : Option (List ℕ)) (xs : List ℕ) → o ≡ None → o ≡ Some xs → ⊥
    clash o xs e f = cc

-- none has one where its list would go
pub gap_lacks : {A : Type 0} (rows : List Row) (ls : List Listed) (n : ℕ) (r : Result A ℕ) → IfErr r (IsGap ls n)
    → OnErr r (listed rows ls n ≡ None)
gap_lacks rows ls n (Ok x) gap = tt
gap_lacks rows ls n (Err i) gap = gap_none rows ls n i gap

-- whether a number has one
pub has_one : (rows : List Row) (ls : List Listed) (n : ℕ) (r : Result ℕ ℕ) → IfOk r (IsAt ls n)
    → OnErr r (listed rows ls n ≡ None) → is_ok r ≡ is_some (listed rows ls n)
has_one rows ls n (Ok i) at none = some (listed rows ls n) (at_some rows ls n i at)
  where
    some : (o : Option (List ℕ)) → (o ≡ None → ⊥) → true ≡ is_some o
    some None not = absurd (not refl)
    some (Some xs) not = refl
has_one rows ls n (Err i) at none = sym (ap (λ (o : Option (List ℕ)). is_some o) none)
