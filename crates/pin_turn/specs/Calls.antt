-- What the contracts of the public calls cite.
use Rattle.std.specs.Prelude.{◌≡◌, ℕ, ◌<◌, ◌^◌, false, List, [], ◌∷◌, ◌++◌, length, Some}
use Rattle.std.specs.Fn.{Mut, Takes, CalledAtMut}
use Rattle.pin_turn.specs.{declared.turn.Turn.Turn, declared.view.Seat.Seat, declared.view.View.View, Rule.ByOthers}
use denote.Ref.{MutBor}

-- f may be called at a `&mut` to x
abbrev pub TakesAtMut : {F A R : Type 0} → Mut F (MutBor A × Unit {0}) (R × (MutBor A × Unit {0})) → F → A → Type 0
TakesAtMut {F} {A} g f x = (y : MutBor A) → y.now ≡ x → Takes g f (y, tt)

-- which lists of entries a value stands for from a start on, which seat made an entry, and the value with which a turn
-- began
pub record Meaning (T E : Type 0) : Type 1 where
  pub stands : T → T → List E → Type 0
  pub maker : E → ℕ
  pub start : T

-- a closure before a call and after it, and what it returned
pub record Called (F R : Type 0) : Type 0 where
  pub before : F
  pub after : F
  pub result : R

-- what a seat knew before a turn, the entries that the turn added, and what the seat knows after it
pub record Addition (T E : Type 0) : Type 0 where
  pub before : View T E
  pub added : List E
  pub after : View T E

abbrev pub meaning : {T E : Type 0} → (T → T → List E → Type 0) → (E → ℕ) → T → Meaning T E
meaning stands maker start = record { stands = stands; maker = maker; start = start }

abbrev pub called_as : {F R : Type 0} → F → R → F → Called F R
called_as before result after = record { before = before; after = after; result = result }

abbrev pub addition : {T E : Type 0} → View T E → List E → View T E → Addition T E
addition before added after = record { before = before; added = added; after = after }

module _ {T E : Type 0} where
  -- what the seat knows
  abbrev pub known : Seat T E → View T E
  known s = s.place.me.0

  -- the value as the turn began with it
  abbrev pub start_of : Turn T E → T
  start_of t = t.table.shared.key.value

  -- the seat is of this turn
  abbrev pub IsOf : Turn T E → Seat T E → Type 0
  IsOf t s = (s.place.table_id ≡ t.table.shared.table_id) × ((known s).start ≡ Some (start_of t))

  -- what one seat saw begins what the other saw, and what the other saw besides is not by the first
  pub record Begins (maker : E → ℕ) (v w : View T E) : Type 0 where
    pub more : List E
    pub longer : w.seen ≡ v.seen ++ more
    pub by_others : ByOthers maker (v.number ∷ []) more

  -- f fits a turn of the seat: it may be called at each value that stands for what the seat has seen and for more
  -- entries of others, and then leaves one that stands for that list and one entry of the seat's
  pub record FitsTurn {F R : Type 0} (m : Meaning T E) (v : View T E)
      (g : Mut F (MutBor T × Unit {0}) (R × (MutBor T × Unit {0}))) (f : F) (added : R → F → List E) : Type 0 where
    pub may : (more : List E) (x : T) → ByOthers m.maker (v.number ∷ []) more → length (v.seen ++ more) < 2 ^ 62
        → m.stands m.start x (v.seen ++ more) → TakesAtMut g f x
    pub leaves : (more : List E) (x : T) → ByOthers m.maker (v.number ∷ []) more → length (v.seen ++ more) < 2 ^ 62
        → m.stands m.start x (v.seen ++ more) → (r : R) (f' : F) (x' : T) → CalledAtMut g f x r f' x'
        → m.stands m.start x' ((v.seen ++ more) ++ added r f')
    pub by_seat : (r : R) (f' : F) → (e : E) × (added r f' ≡ e ∷ []) × (m.maker e ≡ v.number)

  -- a turn was taken: f was called once, at a value that stood for what the seat had seen and for entries of others,
  -- and then one entry of the seat's was added
  pub record TookTurn {F R : Type 0} (m : Meaning T E) (g : Mut F (MutBor T × Unit {0}) (R × (MutBor T × Unit {0})))
      (f : Called F R) (seat : Addition T E) : Type 0 where
    pub between : List E
    pub by_others : ByOthers m.maker (seat.before.number ∷ []) between
    pub value : T
    pub value' : T
    pub few : length (seat.before.seen ++ between) < 2 ^ 62
    pub unspent : seat.before.used_up ≡ false
    pub stood : m.stands m.start value (seat.before.seen ++ between)
    pub called : CalledAtMut g f.before value f.result f.after value'
    pub view : seat.after ≡ record seat.before {
      seen = (seat.before.seen ++ between) ++ seat.added;
      mine = seat.before.mine ++ length (seat.before.seen ++ between) ∷ [];
    }
