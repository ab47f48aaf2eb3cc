-- The state of a studio: the editor's state, and beside it all that bears on an answer.
use Rattle.std.specs.Prelude.{ℕ, ◌+◌, ◌-◌, ◌^◌, min, Option, None}
use Rattle.pcm_base.specs.declared.limits.TheConstants.{FIRST_BLOCK, FIRST_RECORD}
use Rattle.pcm_base.specs.State.{State, new_state}

-- Whether it has stopped, and at which count of faults; the frames in a second, and the most samples of a block; the id
-- of the next block; the journal's file, version and generation, and the place where it ends; the number of the next
-- layout; and how many reads and how many changes of the disk failed.
pub record Studio : Type 0 where
  pub state : State
  pub stopped : Option ℕ
  pub rate : ℕ
  pub block_size : ℕ
  pub next_block : ℕ
  pub file : ℕ
  pub version : ℕ
  pub generation : ℕ
  pub journal_end : ℕ
  pub next_layout : ℕ
  pub read_faults : ℕ
  pub change_faults : ℕ

-- all faults of the disk, up to the greatest number that counts them
abbrev pub fault_sum : ℕ → ℕ → ℕ
fault_sum reads changes = min (reads + changes) (2 ^ 64 - 1)

-- a new project: no tracks, nothing to undo, no blocks, and a journal without records
abbrev pub fresh : ℕ → ℕ → ℕ → Studio
fresh rate block_size depth = record {
  state = new_state depth;
  stopped = None;
  rate = rate;
  block_size = block_size;
  next_block = FIRST_BLOCK;
  file = 0;
  version = 3;
  generation = 0;
  journal_end = FIRST_RECORD;
  next_layout = 1;
  read_faults = 0;
  change_faults = 0;
}
