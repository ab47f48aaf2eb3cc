-- A side of a session: a recording or a playback.
use Rattle.std.specs.Prelude.{ℕ, Bool, true, false, Option, Some, None, Result, Ok, Err, IsErrAnd, IsOkAnd}
use Rattle.pcm_base.specs.declared.refusal.Refusal.{Refusal}
use Rattle.desk_session.specs.declared.side.Side.{Side}
use Rattle.desk_session.specs.declared.side.Side.TheVariants.{Made, NotAsked, Refused}

-- whether it was asked for
abbrev pub is_asked : Side → Bool
is_asked NotAsked = false
is_asked (Refused why) = true
is_asked (Made number) = true

-- the number of one that was made
abbrev pub side_number : Side → Option ℕ
side_number NotAsked = None
side_number (Refused why) = None
side_number (Made number) = Some number

-- one that was asked for, by what the call for its track or its pin returned
abbrev pub made_by : Result ℕ Refusal → Side
made_by (Ok number) = Made number
made_by (Err why) = Refused why

-- what holds of its number, where it was made, or else
abbrev pub WhereMade : Side → (ℕ → Type 0) → Type 0 → Type 0
WhereMade NotAsked P else_ = else_
WhereMade (Refused why) P else_ = else_
WhereMade (Made number) P else_ = P number

-- a fact of its number, where it was made
abbrev pub IfMade : Side → (ℕ → Type 0) → Type 0
IfMade made P = WhereMade made P (Unit {0})

-- what is lent to it: work, where it was made, or else it is kept
abbrev pub Lends : {W R : Type 0} → Side → (ℕ → W → Type 0) → (R → Type 0) → Result W R → Type 0
Lends made Works Rests lent = WhereMade made (λ x. IsOkAnd lent (Works x)) (IsErrAnd lent Rests)
