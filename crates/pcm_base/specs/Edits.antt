-- The edits of one track, as functions on its cells. Each ends by dropping the gaps at the track's end.
use Rattle.std.specs.Prelude.{ℕ, ◌+◌, ◌-◌, ℤ, pos, ◌+ℤ◌, ◌*ℤ◌, List, ◌++◌, length, take, drop, map, replicate}
use Rattle.pcm_base.specs.declared.sound.Cell.TheVariants.{Gap, Sample}
use Rattle.pcm_base.specs.declared.edits.Removing.TheVariants.{Close, Leave}
use Rattle.pcm_base.specs.declared.edits.Placing.TheVariants.{Insert, Cover}
use Rattle.pcm_base.specs.Arithmetic.{scaled, clamped, counted_from}
use Rattle.pcm_base.specs.Cells.{Track, trimmed, continued}
use Rattle.pcm_base.specs.Shape.{Setting, Gain, Sides, Muted, Source, Given, Ramp}
use Rattle.pcm_base.specs.{declared.sound.Cell.Cell, declared.edits.RangeEdit.RangeEdit}
use Rattle.pcm_base.specs.{declared.edits.Removing.Removing, declared.edits.Placing.Placing}
use Rattle.pcm_base.specs.declared.edits.RangeEdit.TheVariants as range

abbrev pub as_cells : List ℤ → List Cell
as_cells samples = map Sample samples

-- N samples from START on in steps of STEP, each limited to what a sample can be
abbrev pub ramp_of : ℕ → ℤ → ℤ → List Cell
ramp_of n start step = map (λ i. Sample (clamped (start +ℤ pos i *ℤ step))) (counted_from 0 n)

-- the part of a list from one place to another, as much as is there
abbrev pub part : {A : Type 0} → ℕ → ℕ → List A → List A
part from to xs = take (to - from) (drop from xs)

-- cells inserted at a place, to which a shorter track is first continued by gaps
abbrev pub inserted : ℕ → List Cell → List Cell → List Cell
inserted at xs cells = trimmed (take at (continued at cells) ++ xs ++ drop at cells)

-- a range taken out
abbrev pub deleted : ℕ → ℕ → List Cell → List Cell
deleted from to cells = trimmed (take from cells ++ drop to cells)

-- the cells of a range, all of them: gaps where the track is shorter
abbrev pub range_of : ℕ → ℕ → List Cell → List Cell
range_of from to cells = part from to (continued to cells)

-- each cell of a range changed, all others kept
abbrev pub changed : (Cell → Cell) → ℕ → ℕ → List Cell → List Cell
changed f from to cells = trimmed (take from cells ++ map f (part from to cells) ++ drop to cells)

-- nothing is left of a cell
abbrev pub emptied : Cell → Cell
emptied cell = Gap

-- a sample becomes 0, a gap stays
abbrev pub quieted : Cell → Cell
quieted Gap = Gap
quieted (Sample s) = Sample (pos 0)

-- a sample under a gain, rounded and limited; a gap stays
abbrev pub gained : ℕ → Cell → Cell
gained gain Gap = Gap
gained gain (Sample s) = Sample (clamped (scaled gain s))

-- a range becomes gaps
abbrev pub split_deleted : ℕ → ℕ → List Cell → List Cell
split_deleted from to cells = changed emptied from to cells

-- the samples of a range become 0
abbrev pub silenced : ℕ → ℕ → List Cell → List Cell
silenced from to cells = changed quieted from to cells

-- all outside a range becomes gaps
abbrev pub kept_only : ℕ → ℕ → List Cell → List Cell
kept_only from to cells = trimmed (replicate from Gap ++ part from to cells)

-- cells in the place of as many from a place on, to which a shorter track is first continued by gaps
abbrev pub pasted_over : ℕ → List Cell → List Cell → List Cell
pasted_over at xs cells = trimmed (take at (continued at cells) ++ xs ++ drop (at + length xs) cells)

-- ---- by the choices within a shape

-- a range edited
abbrev pub range_edited : RangeEdit → ℕ → ℕ → List Cell → List Cell
range_edited range.Delete from to = deleted from to
range_edited range.SplitDelete from to = split_deleted from to
range_edited range.Silence from to = silenced from to
range_edited range.Trim from to = kept_only from to
range_edited (range.Gain gain) from to = changed (gained gain) from to

-- a range that is cut
abbrev pub removed : Removing → ℕ → ℕ → List Cell → List Cell
removed Close from to = deleted from to
removed Leave from to = split_deleted from to

-- cells put in at a place
abbrev pub placed : Placing → ℕ → List Cell → List Cell → List Cell
placed Insert at = inserted at
placed Cover at = pasted_over at

-- the cells that come to a track, and how many they are
abbrev pub source_cells : Source → List Cell
source_cells (Given samples) = as_cells samples
source_cells (Ramp n start step) = ramp_of n start step

abbrev pub source_count : Source → ℕ
source_count (Given samples) = length samples
source_count (Ramp n start step) = n

-- a track set
abbrev pub with_setting : Setting → Track → Track
with_setting (Gain gain) = λ t. record t { gain = gain }
with_setting (Sides side) = λ t. record t { side = side }
with_setting (Muted mute) = λ t. record t { mute = mute }
