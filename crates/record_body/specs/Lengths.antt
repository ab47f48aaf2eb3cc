-- How long a body is at most, by the cells of the project that it tells.
use Rattle.std.specs.Prelude.{ℕ, List, [], ◌∷◌}
use Rattle.clip_track.specs.Clips.{IsLayout, AllHalfFull}
use Rattle.project_state.specs.declared.track.Track.{Track}
use Rattle.record_body.specs.declared.body.Body.{Body}
use Rattle.record_body.specs.declared.body.Body.TheVariants.{Edit, Undo, Redo, Purge}

-- the tracks that a body tells
abbrev pub body_tracks : Body → List Track
body_tracks (Edit tag next_block next_track tracks) = tracks
body_tracks Undo = []
body_tracks Redo = []
body_tracks (Purge n) = []

abbrev pub AreLayouts : List Track → Type 0
AreLayouts [] = Unit {0}
AreLayouts (t ∷ ts) = IsLayout t.layout × AreLayouts ts

-- each track is half full at block size m
abbrev pub AreHalfFull : ℕ → List Track → Type 0
AreHalfFull m [] = Unit {0}
AreHalfFull m (t ∷ ts) = AllHalfFull m t.layout × AreHalfFull m ts
