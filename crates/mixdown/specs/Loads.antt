-- Stretches of the tracks that are heard, in memory.
use Rattle.std.specs.Prelude.{◌≡◌, ◌≤◌, ◌*◌, ℕ, ℤ, List, [], ◌∷◌, length, take, drop}
use Rattle.pcm_base.specs.{declared.limits.TheConstants.MAX_TRACKS, declared.lists.LoadedTrack.LoadedTrack}
use Rattle.pcm_base.specs.{declared.sound.Side.Side, Cells.Project, Cells.Track, Mix.unmuted}
use Rattle.mixdown.specs.Stretches.{AreStretches, gains_of, sides_of}
use Rattle.mixdown.specs.{Laid.heard, Laid.laid, declared.loaded.Loaded.Loaded}

-- the samples of its tracks, one track after the other
abbrev pub loaded_samples : Loaded → List ℤ
loaded_samples l = take (length l.gains.items * l.len) l.samples.items

-- its tracks, as tracks of the model that are heard
abbrev pub loaded_tracks : Loaded → Project
loaded_tracks l = laid l.len (loaded_samples l) l.gains.items l.sides.items

-- no more tracks than a project may have, each with a gain, a side, and a sample for each frame
pub record IsLoaded (l : Loaded) : Type 0 where
  pub few : length l.gains.items ≤ MAX_TRACKS
  pub sides : length l.sides.items ≡ length l.gains.items
  pub samples : length l.gains.items * l.len ≤ length l.samples.items

-- the unmuted tracks of a project from a place on, continued by gaps
pub record Shows (from : ℕ) (p : Project) (l : Loaded) : Type 0 where
  pub gains : l.gains.items ≡ gains_of (unmuted p)
  pub sides : l.sides.items ≡ sides_of (unmuted p)
  pub samples : AreStretches from l.len (unmuted p) (loaded_samples l)

-- ---- as the model replies it

-- stretches of this many samples each, one after the other, one for each gain and side
abbrev pub cut_in : ℕ → List ℤ → List ℕ → List Side → List LoadedTrack
cut_in len samples [] sides = []
cut_in len samples (g ∷ gains) [] = []
cut_in len samples (g ∷ gains) (s ∷ sides) =
    record { gain = g; side = s; samples = take len samples } ∷ cut_in len (drop len samples) gains sides

-- one of them as a track of the model
abbrev pub heard_track : LoadedTrack → Track
heard_track t = heard t.gain t.side t.samples

-- the tracks that are loaded
abbrev pub tracks_in : Loaded → List LoadedTrack
tracks_in l = cut_in l.len (loaded_samples l) l.gains.items l.sides.items
