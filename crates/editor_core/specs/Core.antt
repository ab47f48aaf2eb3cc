-- The core of a studio: all but what its buffers hold, and for how much there is memory.
use Rattle.disk_model.specs.declared.store.Store.{Ghosts}
use Rattle.row_ledger.specs.Lists.{counts_of}
use Rattle.layout_uses.specs.Tallies.{uses_of}
use Rattle.editor_core.specs.declared.studio.Studio.{Studio}
use Rattle.editor_state.specs.Core.{Core}

abbrev pub core_of : {D : Type 0} {disk : Ghosts D} → Studio D disk → Core D
core_of s = record {
  store = s.reader.store;
  cache = s.reader.cache;
  history = s.history.history;
  clipboard = s.clipboard;
  pins = s.pins.items;
  uses = uses_of s.tally;
  counts = counts_of s.tally.ledger;
  next_block = s.next_block;
  next_track = s.next_track;
  next_pin = s.next_pin;
  next_layout = s.next_layout;
  commit_number = s.commit_number;
  file = s.file;
  version = s.version;
  generation = s.generation;
  journal_end = s.journal_end;
  stopped = s.stopped;
  rate = s.rate;
  block_size = s.buffers;
}
