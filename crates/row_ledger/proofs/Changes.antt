-- A ledger of rows before and after a list comes or goes.
use Rattle.std.proofs.Common.{◌≡◌, refl, ℕ, ◌<◌, List, [], subst}
use Rattle.std.proofs.Common.{◌++◌, sym, ◌∙◌, ap, arith, Option, Some, None}
use Rattle.std.specs.List.{insert, remove}
use Rattle.block_ledger.specs.Counts.{Counts, IsFreshCount}
use Rattle.row_ledger.specs.declared.row.{Row.Row, Listed.Listed}
use Rattle.row_ledger.specs.Rows.{TableState, HasSameRoom, counts, uses_at, flat, Comes, Held, AreUsed, AreHad}
use Rattle.row_ledger.specs.Lists.{RowsState, listed, all_rows, IsRows, ListComes, ListGoes, IsSame}
use Rattle.row_ledger.specs.Lists.{HasPlaces, IsGap}
use Rattle.std.proofs.Common.{Result, Ok, Err}
use Rattle.std.specs.Prelude.{OnOk}
use Rattle.block_ledger.specs.Entries.{FollowsIds}
use Rattle.row_ledger.proofs.Sums.{there_same}
use Rattle.row_ledger.proofs.Numbers.{IsPlaced, are_distinct, without_all, without_here, without_other}
use Rattle.row_ledger.proofs.Numbers.{none_lacks, listed_kept, placed_list, insert_all, insert_here, insert_other}
use Rattle.row_ledger.proofs.{Rising.rising_insert, Rising.rising_remove, Sums.times_append}

abbrev pub Kept : TableState → List Listed → RowsState
Kept t ls = record { table = t; lists = ls }

pub all_used : (t : TableState) (ls : List Listed) → IsRows t ls → AreUsed t.rows (all_rows ls)
all_used t ls is = λ k some. omega (arith, is.uses k, some)

some_same : (o : Option (List ℕ)) (xs ys : List ℕ) → o ≡ Some xs → o ≡ Some ys → xs ≡ ys
some_same o xs ys e f = cc

-- what lists have of the one at a place
pub placed_had : (t : TableState) (ls : List Listed) (i : ℕ) (l : Listed) → IsRows t ls → IsPlaced ls i l
    → AreHad t.rows l.rows.items
placed_had t ls i l is at = λ k. omega (arith, is.uses k, without_all ls i l k at)

pub goes_rows : (old new : TableState) (ls : List Listed) (i : ℕ) (l : Listed) → IsRows old ls → IsPlaced ls i l
    → Comes new old l.rows.items → IsRows new (remove ls i)
goes_rows old new ls i l is at come = record {
  uses = λ k. omega (arith, is.uses k, come.uses k, without_all ls i l k at);
  rising = rising_remove ls i is.rising;
}

-- the list of a number goes
pub goes : (old new : TableState) (ls : List Listed) (i : ℕ) (l : Listed) (xs : List ℕ) → IsRows old ls
    → IsPlaced ls i l → Comes new old l.rows.items → listed old.rows ls l.number ≡ Some xs
    → HasSameRoom old.ledger new.ledger → ListGoes (Kept old ls) (Kept new (remove ls i)) l.number xs
goes old new ls i l xs is at come has room =
    let rows = goes_rows old new ls i l is at come in
    let same : flat old.rows l.rows.items ≡ xs =
    some_same (listed old.rows ls l.number) (flat old.rows l.rows.items) xs (placed_list old.rows ls i l (are_distinct ls is.rising) at)
    has in
    record {
      lists = record {
        here = none_lacks new.rows (remove ls i) l.number (without_here ls i l (are_distinct ls is.rising) at);
        others = λ n ne. sym (listed_kept new.rows old.rows (remove ls i) n come.rows (all_used new (remove ls i) rows))
            ∙ without_other old.rows ls i l n at ne;
      };
      held = subst (λ (ys : List ℕ). Held (counts new) (counts old) ys) same come.held;
      singles = λ id. sym (come.singles id);
      spare = room.same_spare;
      places = room.same_places;
    }

pub comes_rows : (old new : TableState) (ls : List Listed) (i : ℕ) (l : Listed) → IsRows old ls → IsGap ls l.number i
    → Comes old new l.rows.items → IsRows new (insert ls i l)
comes_rows old new ls i l is gap come = record {
  uses = λ k. omega (arith, is.uses k, come.uses k, insert_all ls i l k);
  rising = rising_insert ls i l is.rising gap;
}

-- a number comes to have a list
pub comes : (old new : TableState) (ls : List Listed) (i : ℕ) (l : Listed) (ids : List ℕ) → IsRows old ls
    → IsGap ls l.number i → Comes old new l.rows.items → flat new.rows l.rows.items ≡ ids
    → HasSameRoom old.ledger new.ledger → ListComes (Kept old ls) (Kept new (insert ls i l)) l.number ids
comes old new ls i l ids is gap come same room =
    let kept : (n : ℕ) → listed new.rows ls n ≡ listed old.rows ls n =
    λ n. listed_kept old.rows new.rows ls n come.rows (all_used old ls is) in
    record {
      lists = record {
        here = insert_here new.rows ls i l gap ∙ ap Some same;
        others = λ n ne. insert_other new.rows ls i l n ne ∙ kept n;
      };
      held = subst (λ (ys : List ℕ). Held (counts old) (counts new) ys) same come.held;
      singles = come.singles;
      spare = room.same_spare;
      places = room.same_places;
    }

-- or nothing changes
pub stays_rows : (old new : TableState) (ls : List Listed) → IsRows old ls → Comes old new [] → IsRows new ls
stays_rows old new ls is come = record { uses = λ k. omega (arith, is.uses k, come.uses k); rising = is.rising }

pub stays : (old new : TableState) (ls : List Listed) → IsRows old ls → Comes old new []
    → HasSameRoom old.ledger new.ledger → IsSame (Kept old ls) (Kept new ls)
stays old new ls is come room = record {
  lists = λ n. listed_kept old.rows new.rows ls n come.rows (all_used old ls is);
  held = come.held;
  singles = come.singles;
  spare = room.same_spare;
  places = room.same_places;
}

-- no lists and no rows
pub no_rows : (t : TableState) (ls : List Listed) → t.rows ≡ [] → ls ≡ [] → IsRows t ls
no_rows t ls rows none = subst (λ (ms : List Listed). IsRows t ms) (sym none)
    (record { uses = λ k. ap (λ (rs : List Row). uses_at rs k) rows; rising = tt })

pub no_list : (t : TableState) (ls : List Listed) (n : ℕ) → ls ≡ [] → listed t.rows ls n ≡ None
no_list t ls n none = ap (λ (ms : List Listed). listed t.rows ms n) none

-- nothing happened
pub same_ledger : (s : RowsState) → IsSame s s
same_ledger s = record {
  lists = λ n. refl;
  held = record { counts = λ id. omega arith; there = λ id. (λ h. h, λ h. h) };
  singles = λ id. refl;
  spare = refl;
  places = refl;
}

-- lists of rows that stay
pub rows_stay : (old new : TableState) (ls : List Listed) → IsRows old ls → new.rows ≡ old.rows → IsRows new ls
rows_stay old new ls is e =
    record { uses = λ k. ap (λ (rs : List Row). uses_at rs k) e ∙ is.uses k; rising = is.rising }

pub lists_stay : (old new : TableState) (ls : List Listed) → new.rows ≡ old.rows
    → (n : ℕ) → listed new.rows ls n ≡ listed old.rows ls n
lists_stay old new ls e n = ap (λ (rs : List Row). listed rs ls n) e

-- places for the ids that the ledger has are for those that the table has
has_places : (t : TableState) (ls : List Listed) (count : ℕ) → FollowsIds count t.ledger → HasPlaces count (Kept t ls)
has_places t ls count f = record {
  ids = f.ids;
  there = record {
    rising = f.there.rising;
    each = λ id. (
      λ h. (there_same t id).1 ((f.there.each id).0 h),
      λ h. (f.there.each id).1 ((there_same t id).0 h),
    );
  };
  size = f.size;
}

pub follows_ids : {A E : Type 0} (r : Result A E) (t : TableState) (ls : List Listed) (spare count : ℕ)
    → OnOk r (spare < count → FollowsIds count t.ledger) → OnOk r (spare < count → HasPlaces count (Kept t ls))
follows_ids (Ok x) t ls spare count f = λ few. has_places t ls count (f few)
follows_ids (Err e) t ls spare count f = tt

-- a fresh count stays one
pub fresh_held : (old new : Counts) (ids xs : List ℕ) → Held old new ids → IsFreshCount xs old
    → IsFreshCount (ids ++ xs) new
fresh_held old new ids xs held fresh = λ id. omega (arith, held.counts id, fresh id, times_append id ids xs)

pub fresh_dropped : (old new : Counts) (ids xs : List ℕ) → Held new old ids → IsFreshCount (ids ++ xs) old
    → IsFreshCount xs new
fresh_dropped old new ids xs held fresh = λ id. omega (arith, held.counts id, fresh id, times_append id ids xs)
