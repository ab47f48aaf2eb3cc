-- What the calls of a store do to its files, and what a stop of the machine may leave.
use Rattle.std.specs.Prelude.{◌≡◌, ◌⊎◌, ℕ, ◌+◌, ◌-◌, ◌≤◌, ◌≢◌, min, max, Option, Some, None, List, [], ◌++◌, length}
use Rattle.std.specs.Prelude.{take, drop, replicate}
use Rattle.disk_model.specs.Moment.{Moment, IsUpTo}

-- the bytes of each file, by its number; None where it is absent
abbrev pub Files : Type 0
Files = ℕ → Option (List ℕ)

-- an absent file reads as an empty one
abbrev pub bytes_of : Option (List ℕ) → List ℕ
bytes_of None = []
bytes_of (Some bytes) = bytes

-- old with these bytes at this offset; what lies between the old end and the offset becomes 0
abbrev pub written : List ℕ → ℕ → List ℕ → List ℕ
written old at bytes = take at (old ++ replicate (at - length old) 0) ++ bytes ++ drop (at + length bytes) old

-- after a write of n bytes that was cut short, or is not on the disk yet: any bytes in the range and past the
-- old end, the same elsewhere, any length from the old to the new
pub record Torn (at n : ℕ) (old new : List ℕ) : Type 0 where
  pub before : take (min at (length old)) new ≡ take (min at (length old)) old
  pub after : drop (at + n) new ≡ drop (at + n) old
  pub no_shorter : length old ≤ length new
  pub no_longer : length new ≤ max (length old) (at + n)

-- the same of a file that may be absent: a write makes it, and a stop may leave it absent
abbrev pub TornFile : ℕ → ℕ → Option (List ℕ) → Option (List ℕ) → Type 0
TornFile at n (Some old) (Some new) = Torn at n old new
TornFile at n (Some old) None = ⊥
TornFile at n None (Some new) = Torn at n [] new
TornFile at n None None = Unit {0}

abbrev pub SameElsewhere : ℕ → Files → Files → Type 0
SameElsewhere file old new = (other : ℕ) → other ≢ file → new other ≡ old other

-- a write to one file, whole, in part or not at all
pub record WriteStep (file at n : ℕ) (old new : Files) : Type 0 where
  pub torn : TornFile at n (old file) (new file)
  pub others : SameElsewhere file old new

-- a removal of one file, done or not
pub record RemoveStep (file : ℕ) (old new : Files) : Type 0 where
  pub gone : (new file ≡ old file) ⊎ (new file ≡ None)
  pub others : SameElsewhere file old new

-- nothing changes
abbrev pub StaysStep : Files → Files → Type 0
StaysStep old new = new ≡ old

-- Images before and after a call (or after several): `past` and `since` give those that a stop at any moment
-- since a given one may leave, and `before` and `now` are the moments.
pub record Follows (step : Files → Files → Type 0) (before now : Moment)
    (past since : Moment → Files → Type 0) : Type 0 where
  pub later : IsUpTo before now
  -- a later start has fewer moments
  pub fewer : (t u : Moment) (c : Files) → IsUpTo t u → IsUpTo u now → since u c → since t c
  -- what a stop might have left stays said
  pub kept : (t : Moment) (c : Files) → IsUpTo t before → past t c → since t c
  -- to those since an earlier moment the call adds only those since its own start
  pub added : (t : Moment) (c : Files) → IsUpTo t before → since t c → past t c ⊎ since before c
  -- each of these comes of one from before the call by a step
  pub from : (c : Files) → since before c → (d : Files) × past before d × step d c
