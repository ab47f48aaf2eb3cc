-- The counts that a row of entries stands for.
use Rattle.std.specs.Prelude.{◌≡◌, ℕ, zero, suc, ◌+◌, ◌<◌, ◌≤◌, max, Bool, true, false, ◌==◌, if◌then◌else◌, Option}
use Rattle.std.specs.Prelude.{Some, None, is_some, List, [], ◌∷◌, length, map, slice_index, slice_index_or}
use Rattle.std.specs.List.{AllByRecursion}
use Rattle.block_ledger.specs.{declared.entry.Entry.Entry, Counts.Counts, Counts.free_id, Counts.AreThere}

-- the count of the first entry of this id
abbrev pub count_in : List Entry → ℕ → Option ℕ
count_in [] id = None
count_in (e ∷ es) id = if e.id == id then e.count else count_in es id

-- what contracts see of a ledger: its entries, by `count_of` alone, and for how many more ids there is room
pub record LedgerState : Type 0 where
  pub entries : List Entry
  pub spare : ℕ

-- the count of each id, none where the ledger does not have it
abbrev pub count_of : LedgerState → Counts
count_of kept = count_in kept.entries

-- for how many ids there is a place: those taken up, by ids that were taken out too, and those that are spare
abbrev pub places : LedgerState → ℕ
places kept = length kept.entries + kept.spare

-- there are places for the ids that are there, and for this many more or as many again
pub record FollowsIds (count : ℕ) (kept : LedgerState) : Type 0 where
  pub ids : List ℕ
  pub there : AreThere (count_of kept) ids
  pub size : places kept ≡ length ids + max count (length ids)

abbrev pub id_of : Entry → ℕ
id_of e = e.id

abbrev pub free_of : Entry → Option ℕ
free_of e = free_id e.id e.count

-- the id of the entry at a place
abbrev pub id_at : List Entry → ℕ → ℕ
id_at es i = slice_index (map id_of es) i

-- the entry at a place, with this count
abbrev pub with_count : List Entry → ℕ → Option ℕ → Entry
with_count es i count = record { id = id_at es i; count = count }

-- the ids rise, so none comes twice
abbrev pub IsRising : List Entry → Type 0
IsRising [] = Unit {0}
IsRising (e ∷ es) = AllByRecursion (λ f. e.id < f.id) es × IsRising es

-- an entry whose id was not taken out
abbrev pub is_kept : Entry → Bool
is_kept e = is_some e.count

-- an entry whose id occurs
abbrev pub occurs : Option ℕ → Bool
occurs None = false
occurs (Some zero) = false
occurs (Some (suc n)) = true

abbrev pub is_named : Entry → Bool
is_named e = occurs e.count

-- each leaf has the id of its entry where that one's count is 0, and nothing where there is no entry
abbrev pub IsLeaves : List Entry → List (Option ℕ) → Type 0
IsLeaves es leaves = (i : ℕ) → slice_index_or leaves i None ≡ slice_index_or (map free_of es) i None

-- the entry at this place has the id
pub record IsAt (es : List Entry) (id i : ℕ) : Type 0 where
  pub within : i < length es
  pub same : id_at es i ≡ id

-- the id would go to this place: those before it are below, those from it on above
pub record IsGap (es : List Entry) (id i : ℕ) : Type 0 where
  pub within : i ≤ length es
  pub below : (j : ℕ) → j < i → id_at es j < id
  pub above : (j : ℕ) → i ≤ j → j < length es → id < id_at es j

-- the ids of the entries from this place on are those from an id on
pub record IsFrom (es : List Entry) (from place : ℕ) : Type 0 where
  pub within : place ≤ length es
  pub below : (j : ℕ) → j < place → id_at es j < from
  pub past : (j : ℕ) → place ≤ j → j < length es → from ≤ id_at es j

-- what holds of a ledger's parts
pub record IsLedger (es : List Entry) (tree : List (Option ℕ)) (capacity : ℕ) : Type 0 where
  pub rising : IsRising es
  pub leaves : IsLeaves es tree
  pub few : length es ≤ length tree
  pub room : length tree ≤ capacity
