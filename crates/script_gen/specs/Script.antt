-- The script of a number, line by line.
use Rattle.std.specs.Prelude.{ℕ, zero, suc, ◌+◌, ◌-◌, min, nat_lt, ◌==◌, if◌then◌else◌, true, false, pos, negsuc, ◌-ℤ◌}
use Rattle.std.specs.Prelude.{List, [], ◌∷◌}
use Rattle.pcm_base.specs.declared.command.Command.{Command}
use Rattle.script_gen.specs.Draws.{next_state, drawn}
use Rattle.script_gen.specs.{declared.draws.CellRange.CellRange, declared.kind.Kind.Kind, declared.place.Place.Place}
use Rattle.pcm_base.specs.declared.command.Command.TheVariants as command
use Rattle.script_gen.specs.declared.kind.Kind.TheVariants as kind

-- a line, and the place after it
pub record Written : Type 0 where
  pub line : Command
  pub place : Place

-- after the first two lines: the number is the first state, and the track has 1,000 cells
abbrev pub first_place : ℕ → Place
first_place number = record { state = number; len = 1000; copied = 0; undone = false }

-- the place after a draw
abbrev pub drawn_on : Place → Place
drawn_on p = record p { state = next_state p.state }

-- what a draw below n gives here
abbrev pub draw_at : ℕ → Place → ℕ
draw_at n p = drawn n (next_state p.state)

-- a range, of two draws: where it begins, and how many cells follow its first; in all it has at most 500
abbrev pub range_at : Place → CellRange
range_at p =
    let from = draw_at p.len p in
    record { from = from; to = from + 1 + draw_at (min (p.len - from) 500) (drawn_on p) }

-- the place after a range
abbrev pub range_drawn_on : Place → Place
range_drawn_on p = drawn_on (drawn_on p)

-- how many cells it has
abbrev pub range_length : CellRange → ℕ
range_length r = r.to - r.from

-- ---- the kinds

-- which a number below 8 stands for
abbrev pub kind_of : ℕ → Kind
kind_of k =
    if k == 0 then kind.Ramp else if k == 1 then kind.Delete else if k == 2 then kind.Gain
    else if k == 3 then kind.Silence else if k == 4 then kind.Copy else if k == 5 then kind.Paste
    else if k == 6 then kind.Undo else kind.Envelope

-- Where the track has less than 2,000 cells it is lengthened in place of a deletion. What was not copied is copied in
-- place of a paste. Else, above 100,000 cells, the track is shortened in place of what lengthens it.
abbrev pub allowed : Place → Kind → Kind
allowed p kind.Ramp = if nat_lt 100000 p.len then kind.Delete else kind.Ramp
allowed p kind.Delete = if nat_lt p.len 2000 then kind.Ramp else kind.Delete
allowed p kind.Gain = kind.Gain
allowed p kind.Silence = kind.Silence
allowed p kind.Copy = kind.Copy
allowed p kind.Paste = if p.copied == 0 then kind.Copy else if nat_lt 100000 p.len then kind.Delete else kind.Paste
allowed p kind.Undo = kind.Undo
allowed p kind.Envelope = kind.Envelope

-- the kind that comes next, by one draw
abbrev pub kind_at : Place → Kind
kind_at p = allowed p (kind_of (draw_at 8 p))

-- ---- the line of each kind, after the draw of the kind

-- four draws: where, how many, from which sample on, in which steps
abbrev pub ramp_at : Place → Written
ramp_at p =
    let second = drawn_on p in
    let third = drawn_on second in
    let fourth = drawn_on third in
    let at = draw_at (p.len + 1) p in
    let count = 1 + draw_at 2000 second in
    let start = pos (draw_at 65536 third) -ℤ pos 32768 in
    let step = pos (draw_at 101 fourth) -ℤ pos 50 in
    record {
      line = command.Ramp 1 at count start step;
      place = record (drawn_on fourth) { len = p.len + count };
    }

abbrev pub delete_at : Place → Written
delete_at p =
    let range = range_at p in
    record {
      line = command.Delete 1 range.from range.to;
      place = record (range_drawn_on p) { len = p.len - range_length range };
    }

-- a range, and then a gain up to twice unity
abbrev pub gain_at : Place → Written
gain_at p =
    let range = range_at p in
    let third = range_drawn_on p in
    record {
      line = command.Gain 1 range.from range.to (draw_at 131073 third);
      place = drawn_on third;
    }

abbrev pub silence_at : Place → Written
silence_at p =
    let range = range_at p in
    record { line = command.Silence 1 range.from range.to; place = range_drawn_on p }

abbrev pub copy_at : Place → Written
copy_at p =
    let range = range_at p in
    record {
      line = command.Copy 1 1 range.from range.to;
      place = record (range_drawn_on p) { copied = range_length range };
    }

abbrev pub paste_at : Place → Written
paste_at p = record {
  line = command.Paste 1 (draw_at (p.len + 1) p);
  place = record (drawn_on p) { len = p.len + p.copied };
}

-- an undo, where a line is left for its redo
abbrev pub undo_at : ℕ → Place → Written
undo_at zero p = record { line = command.Tracks; place = p }
undo_at (suc left) p = record { line = command.Undo; place = record p { undone = true } }

abbrev pub envelope_at : Place → Written
envelope_at p = record { line = command.Envelope 1 0 p.len 16; place = p }

-- the redo of the undo before it
abbrev pub redo_at : Place → Written
redo_at p = record { line = command.Redo; place = record p { undone = false } }

-- ---- the script

-- of a kind, where this many lines are left after it
abbrev pub written_as : Kind → ℕ → Place → Written
written_as kind.Ramp left p = ramp_at p
written_as kind.Delete left p = delete_at p
written_as kind.Gain left p = gain_at p
written_as kind.Silence left p = silence_at p
written_as kind.Copy left p = copy_at p
written_as kind.Paste left p = paste_at p
written_as kind.Undo left p = undo_at left p
written_as kind.Envelope left p = envelope_at p

-- a line that is drawn: first its kind, then what it says
abbrev pub drawn_at : ℕ → Place → Written
drawn_at left p = written_as (kind_at p) left (drawn_on p)

-- the next line, where this many are left after it
abbrev pub line_at : ℕ → Place → Written
line_at left p = if p.undone then redo_at p else drawn_at left p

-- this many lines from a place on
abbrev pub lines_from : ℕ → Place → List Command
lines_from zero p = []
lines_from (suc left) p = (line_at left p).line ∷ lines_from left (line_at left p).place

-- a track, 1,000 samples from -500 up, and then lines that are drawn
abbrev pub script_of : ℕ → ℕ → List Command
script_of number lines =
    command.Track ∷ command.Ramp 1 0 1000 (negsuc 499) (pos 1) ∷ lines_from (lines - 2) (first_place number)
