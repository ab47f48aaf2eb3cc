-- Tracks of a point, as they are heard.
use Rattle.std.specs.Prelude.{ℕ, List, [], ◌∷◌, map, max, filter, not, if◌then◌else◌}
use Rattle.disk_model.specs.Disk.{Files}
use Rattle.pcm_base.specs.{declared.sound.Frame.Frame, declared.sound.Side.Side, Mix.mix_of}
use Rattle.clip_track.specs.Clips.{end_of}
use Rattle.project_state.specs.{declared.track.Track.Track, Meaning.meant}
use Rattle.cell_reader.specs.Stored.{stored_of}

-- the tracks that are heard
abbrev pub heard_tracks : List Track → List Track
heard_tracks ts = filter (λ t. not t.mute) ts

-- how many cells are heard of a track
abbrev pub heard_length : Track → ℕ
heard_length t = if t.mute then 0 else end_of 0 t.layout

-- the length of the mix: that of the longest track that is heard, 0 where none is
abbrev pub mix_length_of : List Track → ℕ
mix_length_of [] = 0
mix_length_of (t ∷ ts) = max (heard_length t) (mix_length_of ts)

-- the mix of tracks by what stands in the files of their blocks
abbrev pub stored_mix : Files → List Track → List Frame
stored_mix files ts = mix_of (meant (stored_of files) ts)

abbrev pub track_gains : List Track → List ℕ
track_gains ts = map (λ t. t.gain) ts

abbrev pub track_sides : List Track → List Side
track_sides ts = map (λ t. t.side) ts
