-- A table whose ledger changed under the same rows: an id was held or dropped by itself, or taken out.
use Rattle.std.proofs.Common.{◌≡◌, ⊎_elim, refl, ℕ, zero, suc, ◌+◌, ◌-◌, ◌^◌, ◌≤◌, ◌<◌, List, [], ◌∷◌, subst}
use Rattle.std.proofs.Common.{sym, ◌∙◌, ap, arith, Option, Some, None, ◌⊎◌, inl, inr, ◌*◌}
use Rattle.std.specs.Prelude.{IsSome}
use Rattle.std.proofs.lemmas.Bool.{cases_eq}
use Rattle.block_ledger.specs.Counts.{SetsCount, IsNamed, IsFreshCount, Counts, occurrences, times, one_more, one_less}
use Rattle.block_ledger.specs.Entries.{LedgerState, count_of}
use Rattle.row_ledger.specs.declared.row.Row.{Row}
use Rattle.row_ledger.specs.Rows.{TableState, IsTable, counts, counted, singles, in_rows, in_uses, ids_at}
use Rattle.row_ledger.specs.Rows.{uses_at, AreRowsThere}
use Rattle.row_ledger.proofs.Sums.{count_is, there_same, ledger_most, free_same}
use Rattle.row_ledger.proofs.{Helds.more_of, Helds.less_of, Helds.named_of, Helds.some_of}
use Rattle.row_ledger.proofs.Turns.{times_here, times_other}

abbrev pub over : LedgerState → List Row → TableState
over ledger rows = record { ledger = ledger; rows = rows }

-- the rows are those of an id's count in the ledger
abbrev counted_with : List Row → ℕ → Option ℕ → Option ℕ
counted_with rows id o = counted o ((occurrences o - in_rows id rows) + in_uses id rows)

-- a table without ids and rows
pub no_table : (ledger : LedgerState) (rows : List Row) → rows ≡ [] → IsTable (over ledger rows)
no_table ledger rows none = subst (λ (rs : List Row). IsTable (over ledger rs)) (sym none)
    (record { held = λ id. omega arith; empty = tt })

pub no_counts : (ledger : LedgerState) (rows : List Row) (id : ℕ) → count_of ledger id ≡ None
    → counts (over ledger rows) id ≡ None
no_counts ledger rows id none = ap (counted_with rows id) none

pub no_singles : (ledger : LedgerState) (rows : List Row) (id : ℕ) → count_of ledger id ≡ None
    → singles (over ledger rows) id ≡ 0
no_singles ledger rows id none = omega (arith, ap occurrences none)

-- an id of which the ledger has the same count
pub same_count : (t : TableState) (ledger : LedgerState) (id : ℕ) → count_of ledger id ≡ count_of t.ledger id
    → counts (over ledger t.rows) id ≡ counts t id
same_count t ledger id e = ap (counted_with t.rows id) e

pub same_singles : (t : TableState) (ledger : LedgerState) (id : ℕ) → count_of ledger id ≡ count_of t.ledger id
    → singles (over ledger t.rows) id ≡ singles t id
same_singles t ledger id e = ap (λ (o : Option ℕ). occurrences o - in_rows id t.rows) e

pub same_table : (t : TableState) (ledger : LedgerState) → IsTable t
    → ((id : ℕ) → count_of ledger id ≡ count_of t.ledger id) → IsTable (over ledger t.rows)
same_table t ledger is e = record { held = λ id. omega (arith, is.held id, ap occurrences (e id)); empty = is.empty }

-- the count of one id was set, to no less than its rows have
pub set_table : (t : TableState) (ledger : LedgerState) (id : ℕ) (o : Option ℕ) → IsTable t
    → SetsCount (count_of t.ledger) (count_of ledger) id o → in_rows id t.rows ≤ occurrences o
    → IsTable (over ledger t.rows)
set_table t ledger id o is set enough = record {
  held = λ other. ⊎_elim
      (λ same. subst (λ (i : ℕ). in_rows i t.rows ≤ occurrences (count_of ledger i)) same
      (omega (arith, enough, ap occurrences set.here)))
      (λ ne. omega (arith, is.held other, ap occurrences (set.others other (λ e. ne (sym e)))))
      (cases_eq id other);
  empty = is.empty;
}

pub set_singles : (t : TableState) (ledger : LedgerState) (id : ℕ) (o : Option ℕ)
    → SetsCount (count_of t.ledger) (count_of ledger) id o
    → singles (over ledger t.rows) id ≡ occurrences o - in_rows id t.rows
set_singles t ledger id o set = ap (λ (p : Option ℕ). occurrences p - in_rows id t.rows) set.here

set_counts : (t : TableState) (ledger : LedgerState) (id n m : ℕ)
    → SetsCount (count_of t.ledger) (count_of ledger) id (Some n) → (n - in_rows id t.rows) + in_uses id t.rows ≡ m
    → SetsCount (counts t) (counts (over ledger t.rows)) id (Some m)
set_counts t ledger id n m set e = record {
  here = ap (counted_with t.rows id) set.here ∙ ap Some e;
  others = λ other ne. same_count t ledger other (set.others other ne);
}

-- an id was held by itself
pub held_table : (t : TableState) (ledger : LedgerState) (id : ℕ) → IsTable t
    → SetsCount (count_of t.ledger) (count_of ledger) id (Some (one_more (count_of t.ledger id)))
    → occurrences (counts t id) + 1 < 2 ^ 128 → IsTable (over ledger t.rows)
held_table t ledger id is set few =
    let o = count_of t.ledger id in
    set_table t ledger id (Some (one_more o)) is set
    (omega (arith, is.held id, more_of o (omega (arith, few, ledger_most t id is))))

pub held_counts : (t : TableState) (ledger : LedgerState) (id : ℕ) → IsTable t
    → SetsCount (count_of t.ledger) (count_of ledger) id (Some (one_more (count_of t.ledger id)))
    → occurrences (counts t id) + 1 < 2 ^ 128
    → SetsCount (counts t) (counts (over ledger t.rows)) id (Some (occurrences (counts t id) + 1))
held_counts t ledger id is set few =
    let o = count_of t.ledger id in
    let more = more_of o (omega (arith, few, ledger_most t id is)) in
    set_counts t ledger id (one_more o) (occurrences (counts t id) + 1) set
    (omega (arith, is.held id, more, count_is t id is))

pub held_singles : (t : TableState) (ledger : LedgerState) (id : ℕ) → IsTable t
    → SetsCount (count_of t.ledger) (count_of ledger) id (Some (one_more (count_of t.ledger id)))
    → occurrences (counts t id) + 1 < 2 ^ 128
    → (other : ℕ) → singles (over ledger t.rows) other ≡ singles t other + times other (id ∷ [])
held_singles t ledger id is set few other =
    let o = count_of t.ledger id in
    let more = more_of o (omega (arith, few, ledger_most t id is)) in
    ⊎_elim
    (λ same. subst (λ (i : ℕ). singles (over ledger t.rows) i ≡ singles t i + times i (id ∷ [])) same
    (omega (arith, set_singles t ledger id (Some (one_more o)) set, is.held id, more, times_here id id [] refl)))
    (λ ne. omega (arith, same_singles t ledger other (set.others other (λ e. ne (sym e))), times_other other id [] ne))
    (cases_eq id other)

-- a table has room where its ledger has
pub room_for : (t : TableState) (id : ℕ) → IsSome (counts t id) ⊎ (0 < t.ledger.spare)
    → IsSome (count_of t.ledger id) ⊎ (0 < t.ledger.spare)
room_for t id room = ⊎_elim (λ some. inl ((there_same t id).0 some)) (λ spare. inr spare) room

-- an id that is held by itself is named in the ledger
pub single_named : (t : TableState) (id : ℕ) → 0 < singles t id → IsNamed (count_of t.ledger id)
single_named t id some = named_of (count_of t.ledger id) (omega (arith, some))

pub dropped_table : (t : TableState) (ledger : LedgerState) (id : ℕ) → IsTable t
    → SetsCount (count_of t.ledger) (count_of ledger) id (Some (one_less (count_of t.ledger id)))
    → 0 < singles t id → IsTable (over ledger t.rows)
dropped_table t ledger id is set some =
    let o = count_of t.ledger id in
    set_table t ledger id (Some (one_less o)) is set (omega (arith, some, less_of o (single_named t id some)))

pub dropped_counts : (t : TableState) (ledger : LedgerState) (id : ℕ) → IsTable t
    → SetsCount (count_of t.ledger) (count_of ledger) id (Some (one_less (count_of t.ledger id)))
    → 0 < singles t id
    → SetsCount (counts t) (counts (over ledger t.rows)) id (Some (occurrences (counts t id) - 1))
dropped_counts t ledger id is set some =
    let o = count_of t.ledger id in
    set_counts t ledger id (one_less o) (occurrences (counts t id) - 1) set
    (omega (arith, some, less_of o (single_named t id some), count_is t id is))

pub dropped_singles : (t : TableState) (ledger : LedgerState) (id : ℕ) → IsTable t
    → SetsCount (count_of t.ledger) (count_of ledger) id (Some (one_less (count_of t.ledger id)))
    → 0 < singles t id
    → (other : ℕ) → singles (over ledger t.rows) other + times other (id ∷ []) ≡ singles t other
dropped_singles t ledger id is set some other =
    let o = count_of t.ledger id in
    let less = less_of o (single_named t id some) in
    ⊎_elim
    (λ same. subst (λ (i : ℕ). singles (over ledger t.rows) i + times i (id ∷ []) ≡ singles t i) same
    (omega (arith, set_singles t ledger id (Some (one_less o)) set, some, less, times_here id id [] refl)))
    (λ ne. omega (arith, same_singles t ledger other (set.others other (λ e. ne (sym e))), times_other other id [] ne))
    (cases_eq id other)

-- an id whose count is 0 was taken out
pub free_ledger : (t : TableState) (id : ℕ) → IsTable t → counts t id ≡ Some 0 → count_of t.ledger id ≡ Some 0
free_ledger t id is free = (free_same t id is).1 free

free_rows : (t : TableState) (id : ℕ) → IsTable t → counts t id ≡ Some 0 → in_rows id t.rows ≡ 0
free_rows t id is free = omega (arith, is.held id, ap occurrences (free_ledger t id is free))

pub forgotten_table : (t : TableState) (ledger : LedgerState) (id : ℕ) → IsTable t
    → SetsCount (count_of t.ledger) (count_of ledger) id None → counts t id ≡ Some 0 → IsTable (over ledger t.rows)
forgotten_table t ledger id is set free =
    set_table t ledger id None is set (omega (arith, free_rows t id is free))

pub forgotten_counts : (t : TableState) (ledger : LedgerState) (id : ℕ)
    → SetsCount (count_of t.ledger) (count_of ledger) id None
    → SetsCount (counts t) (counts (over ledger t.rows)) id None
forgotten_counts t ledger id set = record {
  here = ap (counted_with t.rows id) set.here;
  others = λ other ne. same_count t ledger other (set.others other ne);
}

pub forgotten_singles : (t : TableState) (ledger : LedgerState) (id : ℕ) → IsTable t
    → SetsCount (count_of t.ledger) (count_of ledger) id None → counts t id ≡ Some 0
    → (other : ℕ) → singles (over ledger t.rows) other ≡ singles t other
forgotten_singles t ledger id is set free other = ⊎_elim
    (λ same. subst (λ (i : ℕ). singles (over ledger t.rows) i ≡ singles t i) same
    (omega (arith, set_singles t ledger id None set, ap occurrences (free_ledger t id is free))))
    (λ ne. same_singles t ledger other (set.others other (λ e. ne (sym e))))
    (cases_eq id other)

-- a row that lists have has no more of an id than lists have
in_uses_most : (id : ℕ) (rows : List Row) (k : ℕ) → 0 < uses_at rows k → times id (ids_at rows k) ≤ in_uses id rows
in_uses_most id [] k used = absurd (omega (arith, used))
in_uses_most id (r ∷ rs) zero used = least r.uses (times id r.ids.items) used
  where
    least : (u n : ℕ) → 0 < u → n ≤ u * n + in_uses id rs
    least zero n h = absurd (omega (arith, h))
    least (suc u) n h = omega arith
in_uses_most id (r ∷ rs) (suc k) used = omega (arith, in_uses_most id rs k used)

pub rows_there : (t : TableState) → IsTable t → AreRowsThere t
rows_there t is = λ k used id some. some_of (counts t id)
    (named_of (counts t id) (omega (arith, some, in_uses_most id t.rows k used, count_is t id is)))

-- a fresh count, after one occurrence more or less
pub fresh_more : (old new : Counts) (ids : List ℕ) (id : ℕ) → SetsCount old new id (Some (occurrences (old id) + 1))
    → IsFreshCount ids old → IsFreshCount (id ∷ ids) new
fresh_more old new ids id set fresh = λ other. ⊎_elim
    (λ same. subst (λ (i : ℕ). occurrences (new i) ≡ times i (id ∷ ids)) same
    (omega (arith, ap occurrences set.here, fresh id, times_here id id ids refl)))
    (λ ne. omega (arith, ap occurrences (set.others other (λ e. ne (sym e))), fresh other, times_other other id ids ne))
    (cases_eq id other)

pub fresh_less : (old new : Counts) (ids : List ℕ) (id : ℕ) → SetsCount old new id (Some (occurrences (old id) - 1))
    → IsFreshCount (id ∷ ids) old → IsFreshCount ids new
fresh_less old new ids id set fresh = λ other. ⊎_elim
    (λ same. subst (λ (i : ℕ). occurrences (new i) ≡ times i ids) same
    (omega (arith, ap occurrences set.here, fresh id, times_here id id ids refl)))
    (λ ne. omega (arith, ap occurrences (set.others other (λ e. ne (sym e))), fresh other, times_other other id ids ne))
    (cases_eq id other)

pub fresh_without : (old new : Counts) (ids : List ℕ) (id : ℕ) → SetsCount old new id None → old id ≡ Some 0
    → IsFreshCount ids old → IsFreshCount ids new
fresh_without old new ids id set free fresh = λ other. ⊎_elim
    (λ same. subst (λ (i : ℕ). occurrences (new i) ≡ times i ids) same
    (omega (arith, ap occurrences set.here, ap occurrences free, fresh id)))
    (λ ne. omega (arith, ap occurrences (set.others other (λ e. ne (sym e))), fresh other))
    (cases_eq id other)
