-- Tracks without the numbers of their layouts, as records and headers say them, and tracks that agree by these numbers.
use Rattle.std.specs.Prelude.{◌≡◌, ◌⊎◌, ◌<◌, ◌==◌, ◌&&◌, nat_lt, Bool, List, [], ◌∷◌, map, Option, Some, None}
use Rattle.std.specs.List.{AllByRecursion}
use Rattle.pcm_base.specs.History.{History}
use Rattle.project_state.specs.{declared.track.Track.Track, Tracks.track_of}

-- a track whose layout has no number
abbrev pub unnumbered : Track → Track
unnumbered t = record t { number = 0 }

-- no layout of these has a number
abbrev pub AreUnnumbered : List Track → Type 0
AreUnnumbered [] = Unit {0}
AreUnnumbered (t ∷ ts) = (t.number ≡ 0) × AreUnnumbered ts

-- a history whose layouts have no numbers
abbrev pub unnumbered_history : History (List Track) → History (List Track)
unnumbered_history h =
    record { points = map (λ p. (map unnumbered p.0, p.1)) h.points; cursor = h.cursor; depth = h.depth }

-- ---- tracks that are to get numbers

-- a track without a number, or the current one of its id
abbrev pub IsNewOrCurrent : List Track → Track → Type 0
IsNewOrCurrent current t = (t.number ≡ 0) ⊎ (track_of t.id current ≡ Some t)

abbrev pub AreNewOrCurrent : List Track → List Track → Type 0
AreNewOrCurrent current ts = AllByRecursion (IsNewOrCurrent current) ts

-- ---- what equal numbers say

-- two layouts have one number, and it is not 0
abbrev pub are_numbered_alike : Track → Track → Bool
are_numbered_alike old new = (new.number == old.number) && nat_lt 0 new.number

-- two layouts of one number are the same, unless it is 0
abbrev pub NumbersAgree : Track → Track → Type 0
NumbersAgree old new = new.number ≡ old.number → 0 < new.number → new.layout ≡ old.layout

-- where there is the first track
abbrev pub AgreesIfAny : Option Track → Track → Type 0
AgreesIfAny None new = Unit {0}
AgreesIfAny (Some old) new = NumbersAgree old new

-- each track with the one of the current point that has its id
abbrev pub AgreeById : List Track → List Track → Type 0
AgreeById current [] = Unit {0}
AgreeById current (t ∷ ts) = AgreesIfAny (track_of t.id current) t × AgreeById current ts
