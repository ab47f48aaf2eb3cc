-- What a line meets outside of the editor's state.
use Rattle.std.specs.Prelude.{◌≢◌, ◌≡◌, ℕ, List, Option}

-- sounds by the bytes of their names, none where there is no sound of the name
abbrev pub Sounds : Type 0
Sounds = List ℕ → Option (List ℕ)

-- the sounds of all other names stay
abbrev pub SameElsewhere : List ℕ → Sounds → Sounds → Type 0
SameElsewhere name old new = (other : List ℕ) → other ≢ name → new other ≡ old other

-- The frames in a second of the project, and the bytes of the sound that the line names, none where there is none.
pub record Outside : Type 0 where
  pub rate : ℕ
  pub sound : Option (List ℕ)
