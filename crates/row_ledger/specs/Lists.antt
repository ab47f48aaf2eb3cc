-- Lists of rows, by number.
use Rattle.std.specs.Prelude.{◌≡◌, ◌≢◌, ℕ, ◌+◌, ◌<◌, ◌≤◌, ◌==◌, if◌then◌else◌, max, Option, Some, None, List}
use Rattle.std.specs.Prelude.{[], ◌∷◌, ◌++◌, length, map, slice_index}
use Rattle.std.specs.List.{AllByRecursion}
use Rattle.row_ledger.specs.declared.row.{Row.Row, Listed.Listed}
use Rattle.row_ledger.specs.Rows.{TableState, flat, uses_at, counts, singles, Held, like}
use Rattle.block_ledger.specs.{Counts.Counts, Counts.times, Counts.AreThere, Entries.places}

-- what contracts see of a ledger of rows: by `counts_of`, `singles_of` and `list_of` alone
pub record RowsState : Type 0 where
  pub table : TableState
  pub lists : List Listed

-- the count of each id over all lists and what is held by itself, none where it is not there
abbrev pub counts_of : RowsState → Counts
counts_of kept = counts kept.table

-- how often an id is held by itself
abbrev pub singles_of : RowsState → ℕ → ℕ
singles_of kept = singles kept.table

-- for how many more ids there is room
abbrev pub spare_of : RowsState → ℕ
spare_of kept = kept.table.ledger.spare

-- for how many ids there is a place: those taken up, by ids that were taken out too, and those that are spare
abbrev pub places_of : RowsState → ℕ
places_of kept = places kept.table.ledger

-- there are places for the ids that are there, and for this many more or as many again
pub record HasPlaces (count : ℕ) (kept : RowsState) : Type 0 where
  pub ids : List ℕ
  pub there : AreThere (counts_of kept) ids
  pub size : places_of kept ≡ length ids + max count (length ids)

abbrev pub listed : List Row → List Listed → ℕ → Option (List ℕ)
listed rows [] number = None
listed rows (l ∷ ls) number = if l.number == number then Some (flat rows l.rows.items) else listed rows ls number

-- the ids of the list of a number
abbrev pub list_of : RowsState → ℕ → Option (List ℕ)
list_of kept = listed kept.table.rows kept.lists

-- the ids of a list, none where there is no list
abbrev pub ids_or_none : Option (List ℕ) → List ℕ
ids_or_none None = []
ids_or_none (Some ids) = ids

-- so many of the first ids of the list of a number and of its last ones, and others between
abbrev pub list_like : RowsState → ℕ → ℕ → ℕ → List ℕ → List ℕ
list_like kept number front back middle = like (ids_or_none (list_of kept number)) front back middle

-- the rows that lists have, list by list
abbrev pub all_rows : List Listed → List ℕ
all_rows [] = []
all_rows (l ∷ ls) = l.rows.items ++ all_rows ls

-- the numbers rise, so none comes twice
abbrev pub IsRising : List Listed → Type 0
IsRising [] = Unit {0}
IsRising (l ∷ ls) = AllByRecursion (λ m. l.number < m.number) ls × IsRising ls

-- what holds of the parts: a row is used as often as lists have it
pub record IsRows (table : TableState) (lists : List Listed) : Type 0 where
  pub uses : (k : ℕ) → uses_at table.rows k ≡ times k (all_rows lists)
  pub rising : IsRising lists

abbrev pub number_of : Listed → ℕ
number_of l = l.number

-- the number of the list at a place
abbrev pub number_at : List Listed → ℕ → ℕ
number_at ls i = slice_index (map number_of ls) i

-- the list at this place has the number
pub record IsAt (ls : List Listed) (number i : ℕ) : Type 0 where
  pub within : i < length ls
  pub same : number_at ls i ≡ number

-- a list of the number would go to this place: those before it are below, those from it on above
pub record IsGap (ls : List Listed) (number i : ℕ) : Type 0 where
  pub within : i ≤ length ls
  pub below : (j : ℕ) → j < i → number_at ls j < number
  pub above : (j : ℕ) → i ≤ j → j < length ls → number < number_at ls j

-- the number has this list, and every other number what it had
pub record SetsList (old new : RowsState) (number : ℕ) (list : Option (List ℕ)) : Type 0 where
  pub here : list_of new number ≡ list
  pub others : (other : ℕ) → other ≢ number → list_of new other ≡ list_of old other

-- a number comes to have these ids; read from new to old, it has them no more
pub record ListComes (old new : RowsState) (number : ℕ) (ids : List ℕ) : Type 0 where
  pub lists : SetsList old new number (Some ids)
  pub held : Held (counts_of old) (counts_of new) ids
  pub singles : (id : ℕ) → singles_of new id ≡ singles_of old id
  pub spare : spare_of new ≡ spare_of old
  pub places : places_of new ≡ places_of old

-- the list of the number goes
pub record ListGoes (old new : RowsState) (number : ℕ) (ids : List ℕ) : Type 0 where
  pub lists : SetsList old new number None
  pub held : Held (counts_of new) (counts_of old) ids
  pub singles : (id : ℕ) → singles_of new id ≡ singles_of old id
  pub spare : spare_of new ≡ spare_of old
  pub places : places_of new ≡ places_of old

-- nothing changed
pub record IsSame (old new : RowsState) : Type 0 where
  pub lists : (number : ℕ) → list_of new number ≡ list_of old number
  pub held : Held (counts_of old) (counts_of new) []
  pub singles : (id : ℕ) → singles_of new id ≡ singles_of old id
  pub spare : spare_of new ≡ spare_of old
  pub places : places_of new ≡ places_of old
