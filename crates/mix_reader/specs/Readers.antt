-- Readers of a mix.
use Rattle.std.specs.Prelude.{◌≡◌, ◌≤◌, ℕ, List, [], ◌∷◌, length, take}
use Rattle.project_state.specs.declared.track.Track.{Track}
use Rattle.cell_reader.specs.Rests.{IsRestOf}
use Rattle.mix_reader.specs.Tracks.{heard_tracks, track_gains, track_sides}
use Rattle.mix_reader.specs.{declared.passes.TrackPass.TrackPass, declared.reader.MixReader.MixReader}
use Rattle.mix_reader.specs.{declared.tracks.Heard.Heard}

-- what is left of tracks from a place on, one for each, and others after them
abbrev pub AreRestsOf : ℕ → List Track → List TrackPass → Type 0
AreRestsOf from [] ps = Unit {0}
AreRestsOf from (t ∷ ts) [] = ⊥
AreRestsOf from (t ∷ ts) (p ∷ ps) = IsRestOf from t.layout p.rest × AreRestsOf from ts ps

-- how many of these tracks are heard, and their gains and sides, with others after them
pub record AreHeard (ts : List Track) (h : Heard) : Type 0 where
  pub count : h.count ≡ length (heard_tracks ts)
  pub few : h.count ≤ 64
  pub gains : take h.count h.gains ≡ track_gains (heard_tracks ts)
  pub sides : take h.count h.sides ≡ track_sides (heard_tracks ts)

-- what a reader has of the tracks of its project, from its place on
pub record IsReader (r : MixReader) : Type 0 where
  pub heard : AreHeard r.point.now r.heard
  pub rests : AreRestsOf r.at r.point.now r.passes
