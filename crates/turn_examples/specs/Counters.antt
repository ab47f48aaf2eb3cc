-- What a counter stands for.
use Rattle.std.specs.Prelude.{◌≡◌, ℕ, ◌+◌, List, [], ◌∷◌, ◌++◌, length}
use Rattle.pin_turn.specs.{Rule.ByOthers, declared.view.View.View}
use Rattle.turn_examples.specs.{declared.counter.Counter.Counter, declared.counter.Increment.Increment}

-- the raises found these counts: n, and each the next one
abbrev pub FoundFrom : ℕ → List Increment → Type 0
FoundFrom n [] = Unit {0}
FoundFrom n (r ∷ raises) = (r.found ≡ n) × FoundFrom (n + 1) raises

-- from the start on the counter was raised by these, each of which found what those before it had left
pub record IsRaised (start now : Counter) (raises : List Increment) : Type 0 where
  pub count : now.count ≡ start.count + length raises
  pub found : FoundFrom start.count raises

-- one raise more: between what the seat had seen and its own raise are others', and what it found counts all of these
pub record Raises (start : Counter) (old : View Counter Increment) (found : ℕ)
    (new : View Counter Increment) : Type 0 where
  pub between : List Increment
  pub by_others : ByOthers (λ (r : Increment). r.by) (old.number ∷ []) between
  pub seen : new.seen ≡ (old.seen ++ between) ++ record { by = old.number; found = found } ∷ []
  pub mine : new.mine ≡ old.mine ++ length (old.seen ++ between) ∷ []
  pub found_is : found ≡ start.count + length (old.seen ++ between)
