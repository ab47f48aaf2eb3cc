-- Tracks behind counts of owners.
use Rattle.std.specs.{Prelude.List, Prelude.map, Arc.arc_value, declared.alloc.Global.Global, declared.sync.Arc.Arc}
use Rattle.project_state.specs.declared.track.Track.{Track}

-- the tracks that are owned
abbrev pub tracks_of : List (Arc Track Global) → List Track
tracks_of owners = map arc_value owners
