-- Tracks whose new layouts keep blocks of the old ones.
use Rattle.std.specs.Prelude.{◌≡◌, ◌⊎◌, Some, List}
use Rattle.std.specs.List.{AllByRecursion}
use Rattle.clip_track.specs.{Clips.layout_blocks, Kept.Keeps, declared.kept.Kept.Kept}
use Rattle.project_state.specs.{declared.track.Track.Track, Tracks.track_of}

-- a track has the layout of the old one of its id, or one that keeps so many of its blocks at both ends
abbrev pub StaysOrKeeps : Kept → Track → Track → Type 0
StaysOrKeeps k old new =
    (new.number ≡ old.number) ⊎ Keeps k (layout_blocks old.layout) (layout_blocks new.layout)

abbrev pub KeepsTrack : Kept → List Track → Track → Type 0
KeepsTrack k olds new = (old : Track) → track_of new.id olds ≡ Some old → StaysOrKeeps k old new

abbrev pub KeepsTracks : Kept → List Track → List Track → Type 0
KeepsTracks k olds news = AllByRecursion (KeepsTrack k olds) news
