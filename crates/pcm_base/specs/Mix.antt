-- The mix of a project, frame by frame.
use Rattle.std.specs.Prelude.{ℕ, ℤ, ◌-◌, pos, ◌+ℤ◌, List, [], ◌∷◌, map, filter, min, not, Bool, true, false}
use Rattle.std.specs.Prelude.{slice_index_or}
use Rattle.pcm_base.specs.declared.sound.Cell.TheVariants.{Gap, Sample}
use Rattle.pcm_base.specs.declared.sound.Side.TheVariants.{Both, Left, Right}
use Rattle.pcm_base.specs.Arithmetic.{scaled, clamped, counted_from}
use Rattle.pcm_base.specs.Cells.{Track, Project, longest}
use Rattle.pcm_base.specs.{declared.sound.Cell.Cell, declared.sound.Side.Side, declared.sound.Frame.Frame}
use Rattle.pcm_base.specs.{declared.lists.LoadedTrack.LoadedTrack}

-- the tracks that are heard
abbrev pub unmuted : Project → Project
unmuted p = filter (λ t. not t.mute) p

abbrev pub is_on_left : Side → Bool
is_on_left Both = true
is_on_left Left = true
is_on_left Right = false

abbrev pub is_on_right : Side → Bool
is_on_right Both = true
is_on_right Left = false
is_on_right Right = true

-- what a cell adds under a gain; a gap counts 0
abbrev pub weight : ℕ → Cell → ℤ
weight gain Gap = pos 0
weight gain (Sample s) = scaled gain s

-- the sum at a place over some tracks, each by its gain; a track counts 0 past its end
abbrev pub sum_at : ℕ → List Track → ℤ
sum_at i [] = pos 0
sum_at i (t ∷ ts) = weight t.gain (slice_index_or t.cells i Gap) +ℤ sum_at i ts

-- the tracks that are heard on each side
abbrev pub on_left : Project → Project
on_left p = filter (λ t. is_on_left t.side) (unmuted p)

abbrev pub on_right : Project → Project
on_right p = filter (λ t. is_on_right t.side) (unmuted p)

-- each side is the sum of its tracks, limited once
abbrev pub frame_at : Project → ℕ → Frame
frame_at p i = record {
  left = clamped (sum_at i (on_left p));
  right = clamped (sum_at i (on_right p));
}

-- how many frames the mix has: as many as the longest track that is heard has cells
abbrev pub mix_length : Project → ℕ
mix_length p = longest (unmuted p)

abbrev pub mix_of : Project → List Frame
mix_of p = map (frame_at p) (counted_from 0 (mix_length p))

-- ---- tracks that are loaded

-- what is heard of a cell: its sample, and 0 for a gap
abbrev pub heard_of : Cell → ℤ
heard_of Gap = pos 0
heard_of (Sample s) = s

-- what is heard of this many cells of a track from a place on; past its end are gaps
abbrev pub stretch_of : (from n : ℕ) → Track → List ℤ
stretch_of from n t = map (λ i. heard_of (slice_index_or t.cells i Gap)) (counted_from from n)

abbrev pub loaded_track : (from n : ℕ) → Track → LoadedTrack
loaded_track from n t = record { gain = t.gain; side = t.side; samples = stretch_of from n t }

-- the tracks that are heard from a place on: as many frames as there are, up to a number
abbrev pub loaded_of : (from most : ℕ) → Project → List LoadedTrack
loaded_of from most p = map (loaded_track from (min most (mix_length p - from))) (unmuted p)
