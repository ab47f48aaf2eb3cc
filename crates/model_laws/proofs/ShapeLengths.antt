-- What the edits leave of a track's length, by the choices within a shape.
use Rattle.std.proofs.Common.{◌≡◌, ℕ, ◌^◌, ◌≤◌, List, length}
use Rattle.pcm_base.specs.declared.edits.Removing.TheVariants.{Close, Leave}
use Rattle.pcm_base.specs.declared.edits.Placing.TheVariants.{Insert, Cover}
use Rattle.pcm_base.specs.Edits.{emptied, quieted, gained, placed, range_edited, removed, source_cells, source_count}
use Rattle.pcm_base.specs.Shape.{Source, Given, Ramp}
use Rattle.pcm_base.specs.{declared.sound.Cell.Cell, declared.edits.RangeEdit.RangeEdit}
use Rattle.pcm_base.specs.{declared.edits.Removing.Removing, declared.edits.Placing.Placing, Refusals.placed_length}
use Rattle.model_laws.specs.Bounds.{AreCells, IsShort}
use Rattle.model_laws.proofs.EditLengths.{length-as_cells, length-ramp_of, inserted_cells, pasted_cells, deleted_cells}
use Rattle.model_laws.proofs.EditLengths.{changed_cells, kept_cells}
use Rattle.pcm_base.specs.declared.edits.RangeEdit.TheVariants as range

pub length-source : (source : Source) → length (source_cells source) ≡ source_count source
length-source (Given samples) = length-as_cells samples
length-source (Ramp n start step) = length-ramp_of n start step

pub edited_cells : (edit : RangeEdit) (from to : ℕ) (cells : List Cell) → from ≤ to → to ≤ length cells →
    IsShort cells → AreCells (range_edited edit from to cells)
edited_cells range.Delete from to cells order end = deleted_cells from to cells order
edited_cells range.SplitDelete from to cells order end = changed_cells emptied from to cells order
edited_cells range.Silence from to cells order end = changed_cells quieted from to cells order
edited_cells range.Trim from to cells order end = kept_cells from to cells order end
edited_cells (range.Gain gain) from to cells order end = changed_cells (gained gain) from to cells order

pub removed_cells : (removing : Removing) (from to : ℕ) (cells : List Cell) → from ≤ to → IsShort cells →
    AreCells (removed removing from to cells)
removed_cells Close from to = deleted_cells from to
removed_cells Leave from to = changed_cells emptied from to

pub placed_cells : (placing : Placing) (at : ℕ) (xs cells : List Cell) →
    placed_length placing at (length xs) (length cells) ≤ 2 ^ 32 → AreCells (placed placing at xs cells)
placed_cells Insert at = inserted_cells at
placed_cells Cover at = pasted_cells at
