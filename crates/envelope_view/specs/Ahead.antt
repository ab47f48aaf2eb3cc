-- What is left of a layout: a stretch, and what stands after it.
use Rattle.std.specs.Prelude.{ℕ, ◌≤◌, List, ◌∷◌}
use Rattle.pcm_base.specs.{declared.block.BlockRef.BlockRef, declared.sound.Cell.Cell, Pieces.Sources}
use Rattle.clip_track.specs.declared.rest.Stretch.TheVariants.{Gaps, Block}
use Rattle.clip_track.specs.Items.{item_blocks, item_cells, item_len, strip_blocks, strip_cells}
use Rattle.clip_track.specs.{declared.items.Item.Item, declared.rest.Stretch.Stretch, Rests.stretch_item}
use Rattle.envelope_view.specs.declared.ahead.Ahead.{Ahead}

abbrev pub stretch_len : Stretch → ℕ
stretch_len s = item_len (stretch_item s)

abbrev pub stretch_cells : Sources → Stretch → List Cell
stretch_cells src s = item_cells src (stretch_item s)

abbrev pub stretch_blocks : Stretch → List BlockRef
stretch_blocks s = item_blocks (stretch_item s)

-- a stretch begins within its block or at its end
abbrev pub IsInBlock : Stretch → Type 0
IsInBlock (Gaps len) = Unit {0}
IsInBlock (Block b from) = from ≤ b.len

abbrev pub ahead_items : Ahead → List Item
ahead_items a = stretch_item a.stretch ∷ a.rest

abbrev pub ahead_cells : Sources → Ahead → List Cell
ahead_cells src a = strip_cells src (ahead_items a)

abbrev pub ahead_blocks : Ahead → List BlockRef
ahead_blocks a = strip_blocks (ahead_items a)
