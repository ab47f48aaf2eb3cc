-- Clips with a count of owners.
use Rattle.std.specs.Prelude.{List, [], Option, Some, None}
use Rattle.std.specs.{Arc.arc_value, declared.alloc.Global.Global, declared.sync.Arc.Arc, declared.vec.Vec.Vec}
use Rattle.clip_track.specs.declared.clips.Clip.{Clip}

-- the clips that are owned, none where there is no owner
abbrev pub clips_of : Option (Arc (Vec Clip Global) Global) → List Clip
clips_of None = []
clips_of (Some owner) = (arc_value owner).items
