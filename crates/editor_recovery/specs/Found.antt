-- What opening finds of a project, as its parts show it and a studio of them.
use Rattle.std.specs.Prelude.{◌≡◌, ℕ, List, [], None, Result, Ok, Err}
use Rattle.pcm_base.specs.History.{History}
use Rattle.block_ledger.specs.Counts.{Counts}
use Rattle.row_ledger.specs.Lists.{counts_of}
use Rattle.layout_uses.specs.{Tallies.Uses, Tallies.uses_of}
use Rattle.project_state.specs.declared.track.Track.{Track}
use Rattle.editor_state.specs.Core.{Core}
use Rattle.editor_core.specs.declared.assembly.Parts.{Parts}
use Rattle.editor_recovery.specs.declared.fault.OpenFault.{OpenFault}

pub record Found : Type 0 where
  pub rate : ℕ
  -- how many samples a block has at most
  pub block_size : ℕ
  pub history : History (List Track)
  -- how often points use each layout, and how often the layouts that are used name each block
  pub uses : Uses
  pub counts : Counts
  pub next_block : ℕ
  pub next_track : ℕ
  pub next_layout : ℕ
  pub commit_number : ℕ
  -- where the journal stands, its version, its generation, and the place of its first gate that is 0
  pub file : ℕ
  pub version : ℕ
  pub generation : ℕ
  pub journal_end : ℕ

abbrev pub found_in : Parts → Found
found_in p = record {
  rate = p.rate;
  block_size = p.block_size;
  history = p.history.history;
  uses = uses_of p.tally;
  counts = counts_of p.tally.ledger;
  next_block = p.next_block;
  next_track = p.next_track;
  next_layout = p.next_layout;
  commit_number = p.commit_number;
  file = p.file;
  version = p.version;
  generation = p.generation;
  journal_end = p.journal_end;
}

abbrev pub found_by : {D : Type 0} → Core D → Found
found_by s = record {
  rate = s.rate;
  block_size = s.block_size;
  history = s.history;
  uses = s.uses;
  counts = s.counts;
  next_block = s.next_block;
  next_track = s.next_track;
  next_layout = s.next_layout;
  commit_number = s.commit_number;
  file = s.file;
  version = s.version;
  generation = s.generation;
  journal_end = s.journal_end;
}

-- the parts that were found, or why they were not
abbrev pub answer_in : Result Parts OpenFault → Result Found OpenFault
answer_in (Ok p) = Ok (found_in p)
answer_in (Err e) = Err e

-- a new studio: nothing was copied, there are no pins, and it is not stopped
pub record IsNew {D : Type 0} (s : Core D) : Type 0 where
  pub clipboard : s.clipboard ≡ None
  pub pins : s.pins ≡ []
  pub next_pin : s.next_pin ≡ 1
  pub stopped : s.stopped ≡ None
