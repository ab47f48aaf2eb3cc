-- The parts that a studio is made of, as opening a disk finds them.
use Rattle.std.specs.Prelude.{ℕ, ◌≤◌, IsTrue, [], None, IsSome}
use Rattle.std.specs.List.{AllByRecursion}
use Rattle.disk_model.specs.declared.store.Store.{Ghosts}
use Rattle.sample_block.specs.Sources.{AllWhole}
use Rattle.block_cache.specs.Caches.{no_entries}
use Rattle.row_ledger.specs.Lists.{counts_of}
use Rattle.project_journal.specs.Header.{IsFormat}
use Rattle.project_state.specs.Meaning.{history_blocks}
use Rattle.record_body.specs.SavedValid.{IsValidTagged}
use Rattle.layout_uses.specs.{Layouts.AreDrawn, Layouts.AreNumbered, Layouts.history_tracks, Tallies.IsTally}
use Rattle.layout_uses.specs.Tallies.{uses_of}
use Rattle.editor_state.specs.Core.{Core}
use Rattle.editor_state.specs.Studios.{AreCounters, AreJournalNumbers, IsDurable, IsGiven}
use Rattle.editor_core.specs.declared.assembly.Parts.{Parts}

-- the studio of these parts: it is not stopped, nothing was copied, there are no pins, and the next pin is 1
abbrev pub assembled : {D : Type 0} → D → Parts → Core D
assembled store p = record {
  store = store;
  cache = no_entries p.pages;
  history = p.history.history;
  clipboard = None;
  pins = [];
  uses = uses_of p.tally;
  counts = counts_of p.tally.ledger;
  next_block = p.next_block;
  next_track = p.next_track;
  next_pin = 1;
  next_layout = p.next_layout;
  commit_number = p.commit_number;
  file = p.file;
  version = p.version;
  generation = p.generation;
  journal_end = p.journal_end;
  stopped = None;
  rate = p.rate;
  block_size = p.block_size;
}

-- What holds of the parts, on every store: the numbers are within their bounds, layouts, ids and tags are valid,
-- layouts of one number are the same and were drawn, the next one's number is at most the journal's end, their uses by
-- the history are counted, and the ledger counts the blocks of the layouts so used, and has ids alone that were given.
pub record AreParts (p : Parts) : Type 0 where
  pub pages_least : 1 ≤ p.pages
  pub pages_most : p.pages ≤ 1024
  pub format : IsFormat p.rate p.block_size p.history.history.depth
  pub counters : AreCounters p.next_block p.next_track 1 p.commit_number p.journal_end
  pub journal : AreJournalNumbers p.file p.version p.generation
  pub points : AllByRecursion (IsValidTagged p.block_size p.next_block p.next_track p.commit_number)
      p.history.history.points
  pub layouts : p.next_layout ≤ p.journal_end
  pub numbered : AreNumbered (history_tracks p.history.history)
  pub drawn : AreDrawn p.next_layout (history_tracks p.history.history)
  pub counted : IsTally (history_tracks p.history.history) [] p.tally
  pub given : (id : ℕ) → IsSome (counts_of p.tally.ledger id) → IsGiven p.next_block id

-- The disk has what the parts stand for: it tells its bytes, each block that the history names is whole as it reads,
-- the journal of this file, version and generation leads to the history, next track and commit number, each image has
-- the named blocks, and the ledger's ids are the block files.
pub record HasParts {D : Type 0} (disk : Ghosts D) (store : D) (p : Parts) : Type 0 where
  pub tells : IsTrue (disk.tells store)
  pub whole : AllWhole (disk.reads store) (history_blocks p.history.history)
  pub durable : IsDurable disk (assembled store p)
