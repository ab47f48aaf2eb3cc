-- What is seen of a studio: all but what its buffers hold, and for how much there is memory.
use Rattle.std.specs.Prelude.{ℕ, Option, List}
use Rattle.pcm_base.specs.History.{History}
use Rattle.block_cache.specs.Caches.{Entries}
use Rattle.block_ledger.specs.Counts.{Counts}
use Rattle.clip_track.specs.declared.items.Item.{Item}
use Rattle.project_journal.specs.Header.{Form, form_of}
use Rattle.project_state.specs.declared.track.Track.{Track}
use Rattle.layout_uses.specs.Tallies.{Uses}
use Rattle.editor_state.specs.declared.pin.Pin.{Pin}

pub record Core (D : Type 0) : Type 0 where
  pub store : D
  -- pages of blocks that were read
  pub cache : Entries
  pub history : History (List Track)
  pub clipboard : Option (List (List Item))
  pub pins : List Pin
  -- how often each layout is used, which have a list, and what is named by itself; and how often each block is named
  pub uses : Uses
  pub counts : Counts
  pub next_block : ℕ
  pub next_track : ℕ
  pub next_pin : ℕ
  pub next_layout : ℕ
  pub commit_number : ℕ
  -- where the journal stands, and what its header says of it
  pub file : ℕ
  pub version : ℕ
  pub generation : ℕ
  pub journal_end : ℕ
  -- the count of faults at which it stopped
  pub stopped : Option ℕ
  pub rate : ℕ
  pub block_size : ℕ

-- the form of its journal
abbrev pub form_at : {D : Type 0} → Core D → Form
form_at s = form_of s.version s.file
