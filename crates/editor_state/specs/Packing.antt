-- What a studio's journal is put into: one header with its history, in the next generation.
use Rattle.std.specs.Prelude.{ℕ, ◌+◌, ◌-◌, List, [], ◌∷◌, ◌++◌, length, map}
use Rattle.pcm_base.specs.{declared.command.Call.Call, declared.command.Call.TheVariants.Line}
use Rattle.pcm_base.specs.{declared.command.Command.TheVariants.Compact, Cells.Project, History.History}
use Rattle.pcm_base.specs.{Sizes.project_body_most}
use Rattle.project_journal.specs.Journal.{Log, points_size}
use Rattle.project_journal.specs.{declared.base.Base.Base, Choice.other_file, Packing.header_row}
use Rattle.project_state.specs.declared.track.Track.{Track}
use Rattle.record_body.specs.Saved.{point_bytes}
use Rattle.editor_state.specs.Core.{Core}
use Rattle.pcm_base.specs.Studio as model

-- the points of a history as they stand in a header
abbrev pub points_in : History (List Track) → List (List ℕ)
points_in h = map point_bytes h.points

-- the numbers of the header
abbrev pub packed_base : {D : Type 0} → Core D → Base
packed_base s = record {
  generation = s.generation + 1;
  commit = s.commit_number;
  next_block = s.next_block;
  next_track = s.next_track;
  count = length s.history.points;
  cursor = s.history.cursor;
}

-- the journal without records that begins with the studio's history
abbrev pub packed_log : {D : Type 0} → Core D → Log
packed_log s = record {
  rate = s.rate;
  block_size = s.block_size;
  depth = s.history.depth;
  base = packed_base s;
  points = points_in s.history;
  bodies = [];
}

-- what stands after its open gate: the header, and the gate of the first record
abbrev pub packed_text : {D : Type 0} → Core D → List ℕ
packed_text s = header_row (packed_log s) ++ 0 ∷ []

-- how many bytes its file has: two gates, the 63 bytes of the header's numbers, and the points
abbrev pub packed_size : {D : Type 0} → Core D → ℕ
packed_size s = 65 + points_size (points_in s.history)

-- how many bytes points may have in a header, in blocks of at most m samples
abbrev pub points_most : ℕ → List (Project × ℕ) → ℕ
points_most m [] = 0
points_most m (p ∷ ps) = project_body_most m p.0 + points_most m ps

-- and so how many bytes the file may have, by what the studio stands for
abbrev pub packed_most : model.Studio → ℕ
packed_most t = 65 + points_most t.block_size t.state.history.points

-- What a call writes of such a file: the first gate is written twice.
abbrev pub packed_by : {D : Type 0} → Core D → Call → ℕ
packed_by s (Line Compact) = 1 + packed_size s
packed_by s call = 0

-- and how many such files it makes
abbrev pub packs : Call → ℕ
packs (Line Compact) = 1
packs call = 0

-- the studio whose journal is one header, over this store
abbrev pub packed_core : {D : Type 0} → Core D → D → Core D
packed_core s store = record s {
  store = store;
  file = other_file s.file;
  version = 3;
  generation = s.generation + 1;
  journal_end = packed_size s - 1;
}
