-- What a seat knows, read and written.
use Rattle.std.specs.Prelude.{ℕ, false, List, [], ◌∷◌, ◌++◌, ◌||◌, Option, Some, None}
use Rattle.atomic_table.specs.declared.shared.Seat.{Seat}
use Rattle.pin_turn.specs.declared.view.Stage.TheVariants.{Gone, Resting, Splitting, Joining, Holding}
use Rattle.pin_turn.specs.Counts.{without, longer, shorter, of_shorter}
use Rattle.pin_turn.specs.{declared.view.Stage.Stage, declared.view.View.View}

module _ {E : Type 0} where
  -- the numbers that a seat of number n has, and may give to a new one
  abbrev pub numbers_at : ℕ → Stage E → List ℕ
  numbers_at n Gone = []
  numbers_at n Resting = n ∷ []
  numbers_at n (Splitting k) = n ∷ k ∷ []
  numbers_at n (Joining k owner told) = n ∷ k ∷ []
  numbers_at n Holding = n ∷ []

  abbrev pub drawn_or : ℕ → Stage E → ℕ
  drawn_or d Gone = d
  drawn_or d Resting = d
  drawn_or d (Splitting k) = k
  drawn_or d (Joining k owner told) = k
  drawn_or d Holding = d

module _ {T E : Type 0} where
  abbrev pub numbers : View T E → List ℕ
  numbers v = numbers_at v.number v.stage

  abbrev pub first_view : T → View T E
  first_view x =
      record { start = Some x; number = 0; seen = []; mine = []; away = []; used_up = false; stage = Resting }

  abbrev pub gone_view : View T E
  gone_view = record { start = None; number = 0; seen = []; mine = []; away = []; used_up = false; stage = Gone }

  -- the seat that is split off
  abbrev pub new_view : View T E → View T E
  new_view v = record v { number = drawn_or 0 v.stage; mine = []; away = []; stage = Resting }

  abbrev pub rested : View T E → View T E
  rested v = record v { stage = Resting }

  -- the seat after it took in another
  abbrev pub joined : View T E → View T E → View T E
  joined v w = record v {
    seen = longer v.seen w.seen;
    mine = v.mine ++ w.mine;
    away = without w.number v.away;
    used_up = v.used_up || w.used_up;
  }

  -- and before it has compared what the two had seen
  abbrev pub hearing : View T E → View T E → View T E
  hearing v w = record v {
    seen = longer v.seen w.seen;
    mine = v.mine ++ w.mine;
    used_up = v.used_up || w.used_up;
    stage = Joining w.number (of_shorter v.seen w.seen v.number w.number) (shorter v.seen w.seen);
  }

  -- the seat at rest, with no slot in hand
  abbrev pub settled : Seat (Option T) (View T E) → Seat (Option T) (View T E)
  settled p = record p { me = (rested p.me.0, []) }
