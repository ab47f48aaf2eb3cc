-- Changes of each sample.
use Rattle.pcm_base.specs.declared.piece.Piece.TheVariants.{Old, Scaled, Zero, Given}
use Rattle.pcm_base.specs.Edits.{quieted, gained}
use Rattle.pcm_base.specs.{declared.sound.Cell.Cell, declared.piece.Piece.Piece, Pieces.piece_len}
use Rattle.clip_track.specs.declared.items.Item.{Item}
use Rattle.clip_track.specs.declared.items.Item.TheVariants.{Gap, Sound}
use Rattle.edit_ops.specs.declared.changing.Change.{Change}
use Rattle.edit_ops.specs.declared.changing.Change.TheVariants.{Silence, Gain}

abbrev pub cell_change : Change → Cell → Cell
cell_change Silence = quieted
cell_change (Gain gain) = gained gain

abbrev pub piece_change : Change → Piece → Piece
piece_change Silence p = Zero (piece_len p)
piece_change (Gain gain) (Old b from to) = Scaled b from to gain
piece_change (Gain gain) (Scaled b from to g) = Scaled b from to g
piece_change (Gain gain) (Zero len) = Zero len
piece_change (Gain gain) (Given from to) = Given from to

abbrev pub item_change : Change → Item → Item
item_change change (Gap n) = Gap n
item_change change (Sound p) = Sound (piece_change change p)
