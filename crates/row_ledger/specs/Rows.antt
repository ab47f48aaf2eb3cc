-- A table of rows of ids, each with how often lists have it, and the counts that it stands for.
use Rattle.std.specs.Prelude.{◌≡◌, ℕ, zero, suc, ◌+◌, ◌-◌, ◌*◌, ◌<◌, ◌≤◌, ◌↔◌, Option, Some, None, IsSome}
use Rattle.std.specs.Prelude.{List, [], ◌∷◌, ◌++◌, length, take, drop}
use Rattle.block_ledger.specs.{Counts.Counts, Counts.occurrences, Counts.times, Entries.LedgerState, Entries.count_of}
use Rattle.block_ledger.specs.Entries.{places}
use Rattle.pcm_base.specs.declared.limits.TheConstants.{COUNTER_LIMIT}
use Rattle.row_ledger.specs.declared.row.Row.{Row}

-- how often an id comes in rows, each of them once
abbrev pub in_rows : ℕ → List Row → ℕ
in_rows id [] = 0
in_rows id (r ∷ rs) = times id r.ids.items + in_rows id rs

-- and as often as lists have the row
abbrev pub in_uses : ℕ → List Row → ℕ
in_uses id [] = 0
in_uses id (r ∷ rs) = r.uses * times id r.ids.items + in_uses id rs

-- the ids of the row at a place, none where there is no row
abbrev pub ids_at : List Row → ℕ → List ℕ
ids_at [] k = []
ids_at (r ∷ rs) zero = r.ids.items
ids_at (r ∷ rs) (suc k) = ids_at rs k

-- how often lists have the row at a place
abbrev pub uses_at : List Row → ℕ → ℕ
uses_at [] k = 0
uses_at (r ∷ rs) zero = r.uses
uses_at (r ∷ rs) (suc k) = uses_at rs k

-- the ids of the rows at some places, one row after another
abbrev pub flat : List Row → List ℕ → List ℕ
flat rows [] = []
flat rows (k ∷ ks) = ids_at rows k ++ flat rows ks

-- a row that no list has is empty
abbrev pub AreEmpty : List Row → Type 0
AreEmpty [] = Unit {0}
AreEmpty (r ∷ rs) = (r.uses ≡ 0 → r.ids.items ≡ []) × AreEmpty rs

-- what contracts see of a table: a ledger that counts each row once, and the rows; by `counts`, `singles` and `flat`
pub record TableState : Type 0 where
  pub ledger : LedgerState
  pub rows : List Row

-- what holds of a table's parts: the ledger has each row
pub record IsTable (kept : TableState) : Type 0 where
  pub held : (id : ℕ) → in_rows id kept.rows ≤ occurrences (count_of kept.ledger id)
  pub empty : AreEmpty kept.rows

-- how often an id is held by itself
abbrev pub singles : TableState → ℕ → ℕ
singles kept id = occurrences (count_of kept.ledger id) - in_rows id kept.rows

-- a number in place of a count, where there is one
abbrev pub counted : Option ℕ → ℕ → Option ℕ
counted None n = None
counted (Some m) n = Some n

-- the count of each id over all lists and what is held by itself, none where it is not there
abbrev pub counts : TableState → Counts
counts kept id = counted (count_of kept.ledger id) (singles kept id + in_uses id kept.rows)

-- these occurrences came, of ids that are there
pub record Held (old new : Counts) (ids : List ℕ) : Type 0 where
  pub counts : (id : ℕ) → occurrences (new id) ≡ occurrences (old id) + times id ids
  pub there : (id : ℕ) → IsSome (new id) ↔ IsSome (old id)

-- the ids of this list are there
abbrev pub AreThere : Counts → List ℕ → Type 0
AreThere cs ids = (id : ℕ) → 0 < times id ids → IsSome (cs id)

-- the ids of each row that lists have are there
abbrev pub AreRowsThere : TableState → Type 0
AreRowsThere kept = (k : ℕ) → 0 < uses_at kept.rows k → AreThere (counts kept) (ids_at kept.rows k)

-- a ledger has room for as many more ids as before, in as many places
pub record HasSameRoom (old new : LedgerState) : Type 0 where
  pub same_spare : new.spare ≡ old.spare
  pub same_places : places new ≡ places old

-- rows that lists have stay as they are
abbrev pub Keeps : List Row → List Row → Type 0
Keeps old new = (k : ℕ) → 0 < uses_at old k → ids_at new k ≡ ids_at old k

-- lists have these rows once more; read from new to old, once less
pub record Comes (old new : TableState) (ks : List ℕ) : Type 0 where
  pub held : Held (counts old) (counts new) (flat new.rows ks)
  pub singles : (id : ℕ) → singles new id ≡ singles old id
  pub uses : (k : ℕ) → uses_at new.rows k ≡ uses_at old.rows k + times k ks
  pub rows : Keeps old.rows new.rows

-- lists have each of these rows
abbrev pub AreUsed : List Row → List ℕ → Type 0
AreUsed rows ks = (k : ℕ) → 0 < times k ks → 0 < uses_at rows k

-- lists have each of these rows as often as it comes here
abbrev pub AreHad : List Row → List ℕ → Type 0
AreHad rows ks = (k : ℕ) → times k ks ≤ uses_at rows k

-- some rows came, at the end of a list of places
pub record Adds (old new : TableState) (before after : List ℕ) : Type 0 where
  pub added : List ℕ
  pub extended : after ≡ before ++ added
  pub come : Comes old new added

-- and these are the ids of the rows that came
pub record Laid (old new : TableState) (before after ids : List ℕ) : Type 0 where
  pub added : List ℕ
  pub extended : after ≡ before ++ added
  pub come : Comes old new added
  pub same : flat new.rows added ≡ ids

-- the elements from one place up to another, or as many of them as there are
abbrev pub from_to : ℕ → ℕ → List ℕ → List ℕ
from_to from to xs = take (to - from) (drop from xs)

-- a place between two rows: how many rows lie before it, and how many ids
pub record IsEdge (rows : List Row) (ks : List ℕ) (row at : ℕ) : Type 0 where
  pub within : row ≤ length ks
  pub same_at : length (flat rows (take row ks)) ≡ at

-- a list with others between its first and its last ids
abbrev pub spliced : List ℕ → ℕ → ℕ → List ℕ → List ℕ
spliced xs from to middle = take from xs ++ (middle ++ drop to xs)

-- the first ids of a list and its last ones, so many of each, and others between
abbrev pub like : List ℕ → ℕ → ℕ → List ℕ → List ℕ
like xs front back middle = spliced xs front (length xs - back) middle

-- With others in place of the ids from one place up to another, a list becomes these ids. No number is great.
pub record IsChange (xs ids : List ℕ) (from to : ℕ) (middle : List ℕ) : Type 0 where
  pub all : length xs ≤ COUNTER_LIMIT
  pub size : length middle ≤ COUNTER_LIMIT
  pub rising : from ≤ to
  pub within : to ≤ length xs
  pub same : spliced xs from to middle ≡ ids
