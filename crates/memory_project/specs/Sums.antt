-- The sum of a script that was run.
use Rattle.std.specs.Prelude.{◌≡◌, ℕ, ◌+◌, ◌*◌, ◌≤◌, List, [], ◌∷◌, length, Option, None}
use Rattle.pcm_base.specs.{declared.sound.Cell.Cell, declared.sound.Scan.Scan, declared.sound.TrackLine.TrackLine}
use Rattle.pcm_base.specs.{Cells.cells_at, Envelope.scan_of, State.current, Step.new_track, Studio.Studio}
use Rattle.disk_model.specs.{Frames.asked, declared.store.Store.Ghosts}
use Rattle.editor_state.specs.{Core.Core, Studios.IsHeld, Studios.IsStudio, Studios.studio_of}
use Rattle.editor_core.specs.Facts.{AreBlocksOf}
use Rattle.script_gen.specs.{Room.script_project, Script.script_of, Validity.HasRun}
use Rattle.script_text.specs.declared.summary.Summary.{Summary}
use Rattle.memory_project.specs.Memory.{HasAsked, HasRoom, no_room}
use Rattle.memory_project.specs.{declared.fresh.FreshProject.FreshProject, Fresh.room_of_project}

-- the cells of track 1
abbrev pub track_cells : Studio → List Cell
track_cells t = cells_at 1 (current t.state)

-- A studio whose project has track 1 alone, with at least one cell, and which goes on.
pub record HasOneTrack (t : Studio) : Type 0 where
  pub cells : List Cell
  pub is : current t.state ≡ new_track 1 cells ∷ []
  pub some : 1 ≤ length cells

-- A studio that can be summed up.
pub record MaySum {D : Type 0} (disk : Ghosts D) (s : Core D) : Type 0 where
  pub studio : IsStudio disk s
  pub held : IsHeld disk s
  pub going : s.stopped ≡ None
  pub track : HasOneTrack (studio_of disk s)
  pub room : HasRoom disk s.store no_room

-- It was looked at, and stands for the same.
pub record Looked {D : Type 0} (disk : Ghosts D) (old new : Core D) : Type 0 where
  pub studio : IsStudio disk new
  pub held : IsHeld disk new
  pub same : studio_of disk new ≡ studio_of disk old
  pub room : HasRoom disk new.store no_room
  pub asked_none : HasAsked disk new.store (asked disk old.store)

-- how many cells the first of some tracks has
abbrev pub first_len : List TrackLine → ℕ
first_len [] = 0
first_len (line ∷ lines) = line.len

-- what is found in the first of some columns
abbrev pub first_column : List (Option Scan) → Option Scan
first_column [] = None
first_column (column ∷ columns) = column

-- What is told of a studio: its commit number; how many cells track 1 has; how many blocks are named, each counted
-- once;
-- and what a scan of the whole track finds.
pub record IsSumOf {D : Type 0} (disk : Ghosts D) (number lines : ℕ) (end : Core D) (sum : Summary) : Type 0 where
  pub number_is : sum.number ≡ number
  pub lines_is : sum.lines ≡ lines
  pub commits : sum.commits ≡ (studio_of disk end).state.commit
  pub cells : sum.cells ≡ length (track_cells (studio_of disk end))
  pub blocks : (ids : List ℕ) × AreBlocksOf end ids × (sum.blocks ≡ length ids)
  pub column : sum.column ≡ scan_of (track_cells (studio_of disk end))

-- the project of a script, with room for this many lines
abbrev pub project_for : ℕ → FreshProject
project_for lines = record {
  rate = 8000;
  block_size = 512;
  depth = 64;
  files = 12 * lines + 128;
  bytes = 24576 * lines + 128;
  calls = 64 * lines + 128;
}

-- The script of a number was carried out on a fresh project: it is a run of the model in which no line is refused, from
-- the fresh project to that of the end. The disk counts no fault, its room is not spent, and no more was asked of it
-- than
-- the room of the script's project.
pub record RanScript {D : Type 0} (disk : Ghosts D) (number lines : ℕ) (sum : Summary) : Type 0 where
  pub end : Core D
  pub studio : IsStudio disk end
  pub held : IsHeld disk end
  pub run : HasRun script_project (script_of number lines)
  pub ends : run.end ≡ studio_of disk end
  pub room : HasRoom disk end.store no_room
  pub asked_few : HasAsked disk end.store (room_of_project (project_for lines))
  pub sum_is : IsSumOf disk number lines end sum
