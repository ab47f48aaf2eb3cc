-- What holds between any two steps on the table of a turn, and what each kind of step tells its caller.
use Rattle.std.specs.Prelude.{◌≡◌, ◌≢◌, ℕ, ◌+◌, ◌*◌, ◌^◌, ◌<◌, ◌≤◌, true, false, List, [], ◌∷◌, ◌++◌, length}
use Rattle.std.specs.Prelude.{slice_index, Option, Some}
use Rattle.atomic_table.specs.Table.{State, Me, Step}
use Rattle.pin_turn.specs.declared.view.Stage.TheVariants.{Gone, Resting, Splitting, Joining, Holding}
use Rattle.pin_turn.specs.Counts.{Each, times, without, total, once_below}
use Rattle.pin_turn.specs.{declared.view.View.View, Views.numbers}
use mathlib.Core.Option.{some, none}
use lib.ListN.{get_elem?}

-- none of these entries is by a seat of one of these numbers
abbrev pub ByOthers : {E : Type 0} → (E → ℕ) → List ℕ → List E → Type 0
ByOthers maker ns es = Each (λ e. times (maker e) ns ≡ 0) es

abbrev pub mine_at : {T E : Type 0} → ℕ → View T E → ℕ
mine_at k v = times k v.mine

abbrev pub away_at : {T E : Type 0} → ℕ → View T E → ℕ
away_at n v = times n v.away

abbrev pub has_number : {T E : Type 0} → ℕ → View T E → ℕ
has_number n v = times n (numbers v)

-- the turns so far
pub record Turns (T E : Type 0) : Type 0 where
  -- the value with which they began
  pub start : T
  -- the entries of all of them
  pub log : List E
  -- 1 while a seat has the turn, else 0
  pub busy : ℕ
  -- the place of the view of that seat
  pub holder : ℕ

-- what holds of the view v of the seat at place j
pub record Knows {T E : Type 0} (maker : E → ℕ) (turns : Turns T E) (j : ℕ) (v : View T E) : Type 0 where
  -- what the seat has not seen yet
  pub later : List E
  -- what it has seen begins the list of all
  pub begins : turns.log ≡ v.seen ++ later
  -- it has seen all its own entries
  pub by_others : ByOthers maker (numbers v) later
  -- all seats that are not gone have one start
  pub start_is : v.stage ≢ Gone → v.start ≡ Some turns.start
  -- the seats that were split from it have higher numbers
  pub above : Each (λ n. v.number < n) v.away
  -- a seat that is gone left nothing after
  pub bare : v.stage ≡ Gone → (v.mine ≡ []) × (v.away ≡ [])
  -- where it found that no turn is left, the word is 2 ^ 63
  pub spent : v.used_up ≡ true → length turns.log * 2 + turns.busy ≡ 2 ^ 63
  -- between the two steps of a join: the list that it keeps for the comparison begins the list of all, and holds all
  -- entries of the seat that had seen it
  pub heard : (k owner : ℕ) (told : List E) → v.stage ≡ Joining k owner told
      → (more : List E) × (turns.log ≡ told ++ more) × ByOthers maker (owner ∷ []) more
      × (0 < times owner (v.number ∷ k ∷ [])) × (0 < times k v.away)
  -- only one seat has the turn, only while the word is odd, and it has seen all
  pub holds : v.stage ≡ Holding → (turns.busy ≡ 1) × (turns.holder ≡ j) × (later ≡ [])

-- the rule, where `start` is the value with which the turn began
pub record TurnRule {T E : Type 0} (stands : T → T → List E → Type 0) (maker : E → ℕ) (start : T)
    (s : State (Option T) (View T E)) : Type 0 where
  -- the entries of all turns so far
  pub log : List E
  -- the numbers that were drawn are below it
  pub made : ℕ
  -- 1 while a seat has the turn, else 0
  pub busy : ℕ
  -- the place of the view of that seat
  pub holder : ℕ
  pub wide : length s.words ≡ 1
  pub deep : length s.homes ≡ 1
  -- the word counts the list
  pub word_is : slice_index s.words 0 ≡ length log * 2 + busy
  pub small : (busy ≤ 1) × (length log * 2 + busy ≤ 2 ^ 63)
  -- where the word is even, the value is at home and stands for the list
  pub home : busy ≡ 0 → (x : T) × (get_elem? s.homes 0 ≡ some (some (Some x))) × stands start x log
  -- where it is odd, the slot is not at home
  pub out : busy ≡ 1 → get_elem? s.homes 0 ≡ some none
  -- and a seat has the turn
  pub held : busy ≡ 1 → (v : View T E) × (get_elem? s.views holder ≡ some v) × (v.stage ≡ Holding)
  pub each : (j : ℕ) (v : View T E) → get_elem? s.views j ≡ some v
      → Knows maker record { start = start; log = log; busy = busy; holder = holder } j v
  -- some seat has seen the list of all
  pub longest : (j : ℕ) × (v : View T E) × (get_elem? s.views j ≡ some v) × (v.stage ≢ Gone) × (v.seen ≡ log)
  -- each place of the list is in `mine` of one seat, once, and nothing else is in any
  pub counted : (k : ℕ) → total (mine_at k) s.views ≡ once_below k (length log)
  -- each number but 0 that a seat has, or has drawn, is away from one seat, and nothing else is away from any
  pub tree : (n : ℕ) → 0 < n → total (away_at n) s.views ≡ total (has_number n) s.views
  -- no two seats have one number
  pub apart : (n : ℕ) → total (has_number n) s.views ≤ 1
  -- a number that was not drawn is no seat's
  pub fresh : (n : ℕ) → made ≤ n → total (has_number n) s.views ≡ 0
  -- nor is any entry by such a seat
  pub made_before : Each (λ e. maker e < made) log

-- no seat had this number before: it is above the seat's own, above those of the seats away from it, and above those of
-- all that made an entry which it has seen
pub record IsNewNumber {T E : Type 0} (maker : E → ℕ) (v : View T E) (n : ℕ) : Type 0 where
  pub above_own : v.number < n
  pub above_away : Each (λ k. k < n) v.away
  pub above_makers : Each (λ e. maker e < n) v.seen

-- what a seat knows, and the slots that it has in hand
abbrev Standing : Type 0 → Type 0 → Type 0
Standing T E = Me (Option T) (View T E)

-- a step on the word of the turn
pub record WordStep (T E : Type 0) : Type 0 where
  -- the seat before it
  pub before : Standing T E
  -- the word that it found
  pub word : ℕ
  -- the seat after it
  pub after : Standing T E

-- the turn was taken: the value is in hand, and stands for all that is seen now
pub record Took {T E : Type 0} (stands : T → T → List E → Type 0) (maker : E → ℕ) (step : WordStep T E) : Type 0 where
  pub value : T
  pub between : List E
  pub hand : step.after.1 ≡ (0, Some value) ∷ step.before.1
  pub view : step.after.0 ≡ record step.before.0 { seen = step.before.0.seen ++ between; stage = Holding }
  pub by_others : ByOthers maker (step.before.0.number ∷ []) between
  pub turns : length (step.before.0.seen ++ between) * 2 ≡ step.word
  pub unspent : step.before.0.used_up ≡ false
  pub stand : (start : T) → step.before.0.start ≡ Some start → stands start value (step.before.0.seen ++ between)

module _ {T E : Type 0} where
  -- a load told the word: from 2 ^ 63 on no turn is left, below it nothing changed
  abbrev pub looked : Step (Option T) → Standing T E → ℕ → Standing T E → Type 0
  looked st m n m' = (2 ^ 63 ≤ n → m' ≡ (record m.0 { used_up = true }, m.1)) × (n < 2 ^ 63 → m' ≡ m)

  -- a compare_exchange: where it found the word that it expected the turn was taken, else nothing changed
  abbrev pub took : (T → T → List E → Type 0) → (E → ℕ) → Step (Option T) → Standing T E → ℕ → Standing T E → Type 0
  took stands maker st m n m' =
      (n ≡ st.first → Took stands maker record { before = m; word = n; after = m' }) × (n ≢ st.first → m' ≡ m)

  -- a store: these entries were added, the place is the seat's own, and the turn was given back
  abbrev pub gave : List E → Step (Option T) → Standing T E → ℕ → Standing T E → Type 0
  gave added st m n m' =
      m' ≡ (record m.0 { seen = m.0.seen ++ added; mine = m.0.mine ++ length m.0.seen ∷ []; stage = Resting }, [])

  -- a load: a number was drawn for a new seat
  abbrev pub drew_number : (E → ℕ) → Step (Option T) → Standing T E → ℕ → Standing T E → Type 0
  drew_number maker st m n m' =
      (k : ℕ) × IsNewNumber maker m.0 k × (m' ≡ (record m.0 { away = m.0.away ++ k ∷ []; stage = Splitting k }, m.1))

  -- a load: the two lists were compared, the shorter begins the longer, and what follows is not by its owner
  abbrev pub compared : (E → ℕ) → Step (Option T) → Standing T E → ℕ → Standing T E → Type 0
  compared maker st m n m' = (k owner : ℕ) (told : List E) → m.0.stage ≡ Joining k owner told
      → (m' ≡ (record m.0 { away = without k m.0.away; stage = Resting }, m.1)) × (length told ≤ length m.0.seen
      → (more : List E) × (m.0.seen ≡ told ++ more) × ByOthers maker (owner ∷ []) more)
