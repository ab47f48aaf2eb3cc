-- Samples that a command brings, put in at a place of a track or at its end.
use Rattle.std.specs.Prelude.{ℕ, ◌+◌, ℤ, List, [], ◌∷◌, ◌++◌, Option}
use Rattle.pcm_base.specs.{declared.refusal.Refusal.Refusal, declared.sound.Cell.Cell, Cells.trimmed, Edits.as_cells}
use Rattle.pcm_base.specs.{Edits.inserted, Form.IsNumber, Pieces.stretch, Refusals.inserted_length}
use Rattle.pcm_base.specs.{Refusals.length_limit, Sizes.blocks_of_samples}
use Rattle.editor_tracks.specs.declared.place.Place.TheVariants.{At, End}
use Rattle.editor_tracks.specs.{declared.place.Place.Place, TrackEdits.TrackEdit}

-- a place that a line may say
abbrev pub IsPlace : Place → Type 0
IsPlace (At at) = IsNumber at
IsPlace End = Unit {0}

-- what this many samples make of the cells
abbrev pub place_cells : Place → ℕ → (ℕ → ℤ) → List Cell → List Cell
place_cells (At at) count given cells = inserted at (as_cells (stretch given 0 count)) cells
place_cells End count given cells = trimmed (cells ++ as_cells (stretch given 0 count))

-- what refuses them, by the track's length
abbrev pub place_test : Place → ℕ → ℕ → Option Refusal
place_test (At at) count len = length_limit (inserted_length at count len ∷ [])
place_test End count len = length_limit ((len + count) ∷ [])

abbrev pub place_edit : Place → ℕ → TrackEdit
place_edit place count = record {
  cells = place_cells place count;
  test = place_test place count;
  most = λ m cells. blocks_of_samples m count;
}
