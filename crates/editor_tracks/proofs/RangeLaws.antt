-- Edits of a range of one track: the cells that they meet, and the lines that ask for them.
use Rattle.editor_tracks.proofs.Common.{◌≡◌, ℕ, ◌≤◌, nat_lt, nat_le, ◌&&◌, not, Bool, rules, true, false, None}
use Rattle.editor_tracks.proofs.Common.{List, length, append-nil, Line, Cell, cells_at, current, range_of}
use Rattle.editor_tracks.proofs.Common.{Sources, bad_range, refused_if, Clip, IsLayout, end_of, layout_cells}
use Rattle.editor_tracks.proofs.Common.{length-layout, Nothing, IsEditCall, silent, IsTrackCall, track_command}
use Rattle.std.proofs.{lemmas.Bool.cases_lt, lemmas.Bool.Decides.nat_tests}
use Rattle.pcm_base.specs.declared.edits.RangeEdit.TheVariants.{Delete}
use Rattle.pcm_base.specs.{declared.refusal.Refusal.TheVariants.BadRange, Cells.continued, Edits.part}
use Rattle.pcm_base.specs.{declared.edits.RangeEdit.RangeEdit, Shape.range_line}
use Rattle.editor_tracks.proofs.EditCalls.{one_edit}
use Rattle.editor_tracks.specs.{Ranges.range_edit}

-- ---- the cells

beyond : (to len : ℕ) (b : Bool) → refused_if (not (b && false)) BadRange ≡ None → to ≤ len
beyond to len true e = absurd (cc e)
beyond to len false e = absurd (cc e)

range_within : (from to len : ℕ) → bad_range from to len ≡ None → to ≤ len
range_within from to len none = search (rules, cases_lt, nat_le, nat_tests, beyond, nat_lt)

pub all_here : (to : ℕ) (cells : List Cell) → to ≤ length cells → continued to cells ≡ cells
all_here to cells le = search (rules, append-nil)

-- a range of a layout that passes its test has no gaps after the track's end
pub part_range : (from to : ℕ) (cs : List Clip) (src : Sources) → IsLayout cs
    → bad_range from to (end_of 0 cs) ≡ None → part from to (layout_cells src cs) ≡ range_of from to (layout_cells src cs)
part_range from to cs src is none = search (rules, length-layout, all_here, range_within)

-- ---- the lines

range_is : (e : RangeEdit) (id from to : ℕ) → IsEditCall (Line (range_line e id from to)) silent 0 0
    (λ m s. (range_edit e from to).most m (cells_at id (current s)))
range_is Delete id from to = one_edit (assumption) (assumption)
range_is e id from to = one_edit (assumption) (assumption)

pub range_call : (e : RangeEdit) (id from to : ℕ)
    → IsTrackCall (Line (range_line e id from to)) silent (track_command (range_edit e from to) Nothing id 0 0)
range_call Delete id from to = assumption (range_is Delete id from to)
range_call e id from to = assumption (range_is e id from to)
