-- Layouts by their numbers, and the blocks of those that are used.
use Rattle.std.specs.Prelude.{◌≡◌, ℕ, ◌<◌, ◌==◌, Bool, true, false, if◌then◌else◌, List, [], ◌∷◌, map}
use Rattle.std.specs.List.{flat_map, AllByRecursion}
use Rattle.pcm_base.specs.{declared.block.BlockRef.BlockRef, History.History, History.points_of}
use Rattle.clip_track.specs.Clips.{layout_blocks}
use Rattle.project_state.specs.declared.track.Track.{Track}

-- the numbers of the layouts that tracks use, one a track
abbrev pub numbers_of : List Track → List ℕ
numbers_of ts = map (λ (t : Track). t.number) ts

-- a layout of one of these tracks has the number
abbrev pub has_number : ℕ → List Track → Bool
has_number n [] = false
has_number n (t ∷ ts) = if t.number == n then true else has_number n ts

-- one track for each layout that these tracks use
abbrev pub one_each : List Track → List Track
one_each [] = []
one_each (t ∷ ts) = if has_number t.number ts then one_each ts else t ∷ one_each ts

-- the blocks that tracks name
abbrev pub track_blocks : List Track → List BlockRef
track_blocks ts = flat_map (λ (t : Track). layout_blocks t.layout) ts

-- the blocks of the layouts that they use, of each layout once
abbrev pub used_blocks : List Track → List BlockRef
used_blocks ts = track_blocks (one_each ts)

-- where two tracks have one number, they have one layout
abbrev pub Agree : Track → Track → Type 0
Agree t u = t.number ≡ u.number → t.layout ≡ u.layout

abbrev pub AgreesWith : Track → List Track → Type 0
AgreesWith t ts = AllByRecursion (Agree t) ts

-- layouts of one number are the same
abbrev pub AreNumbered : List Track → Type 0
AreNumbered [] = Unit {0}
AreNumbered (t ∷ ts) = AgreesWith t ts × AreNumbered ts

-- each layout's number is below this one
abbrev pub AreDrawn : ℕ → List Track → Type 0
AreDrawn next ts = AllByRecursion (λ (t : Track). t.number < next) ts

-- the tracks of points, and of a history's points
abbrev pub points_tracks : List (List Track) → List Track
points_tracks ps = flat_map (λ (p : List Track). p) ps

abbrev pub history_tracks : History (List Track) → List Track
history_tracks h = points_tracks (points_of h)
