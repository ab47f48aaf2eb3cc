-- What tracks of blocks mean, and which blocks they name.
use Rattle.std.specs.{Prelude.List, Prelude.map, List.flat_map}
use Rattle.pcm_base.specs.{declared.block.BlockRef.BlockRef, Pieces.Sources, Cells.Project, History.History}
use Rattle.clip_track.specs.Clips.{layout_blocks, layout_cells}
use Rattle.project_state.specs.declared.track.Track.{Track}
use Rattle.pcm_base.specs.Cells as cells

-- what tracks of blocks mean
abbrev pub meant_track : Sources → Track → cells.Track
meant_track src t = record { id = t.id; gain = t.gain; side = t.side; mute = t.mute; cells = layout_cells src t.layout }

abbrev pub meant : Sources → List Track → Project
meant src ts = map (meant_track src) ts

abbrev pub meant_history : Sources → History (List Track) → History Project
meant_history src h = record { points = map (λ p. (meant src p.0, p.1)) h.points; cursor = h.cursor; depth = h.depth }

-- the blocks that tracks name, and those that a history's points name
abbrev pub point_blocks : List Track → List BlockRef
point_blocks ts = flat_map (λ t. layout_blocks t.layout) ts

abbrev pub history_blocks : History (List Track) → List BlockRef
history_blocks h = flat_map (λ p. point_blocks p.0) h.points
