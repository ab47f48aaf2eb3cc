-- What a studio stands for, and what always holds of it.
use Rattle.std.specs.Prelude.{◌≡◌, ◌↔◌, ℕ, ◌+◌, ◌≤◌, ◌<◌, ◌^◌, ◌==◌, if◌then◌else◌, IsTrue, Option, Some, None, IsSome}
use Rattle.std.specs.Prelude.{List, [], ◌∷◌, ◌++◌, length, map}
use Rattle.std.specs.{Option.option_map, List.flat_map, List.AllByRecursion}
use Rattle.pcm_base.specs.declared.limits.TheConstants.{COUNTER_LIMIT, FIRST_BLOCK, LEAST_END, MAX_CELLS, MAX_TRACKS}
use Rattle.pcm_base.specs.{declared.block.BlockRef.BlockRef, declared.sound.Cell.Cell, Cells.Project, Pieces.Sources}
use Rattle.disk_model.specs.{Disk.Files, declared.store.Store.Ghosts}
use Rattle.sample_block.specs.Sources.{sources_of, AllWhole}
use Rattle.block_cache.specs.Caches.{AllPass}
use Rattle.clip_track.specs.{declared.items.Item.Item, Items.strip_len, Items.strip_cells, Items.strip_blocks}
use Rattle.edit_ops.specs.Runs.{AreClips}
use Rattle.project_journal.specs.{Gate.EachNow, Header.IsFormat, Journal.Log, Journal.IsAt}
use Rattle.record_body.specs.Saved.{Begins, Saved, Opened, LeadIn, version_of}
use Rattle.record_body.specs.SavedValid.{IsValidPoint, IsValidTagged}
use Rattle.project_state.specs.Meaning.{meant, meant_history, point_blocks, history_blocks}
use Rattle.project_state.specs.{Numbers.unnumbered_history, declared.track.Track.Track}
use Rattle.layout_uses.specs.Layouts.{AreDrawn, AreNumbered, history_tracks}
use Rattle.pcm_base.specs.Studio as model
pub use Rattle.layout_uses.specs.Occurrences.{ids_of}
use Rattle.layout_uses.specs.Tallies.{AreCounts}
use Rattle.editor_state.specs.Core.{Core, form_at}
pub use Rattle.editor_state.specs.Given.{IsGiven, is_block, is_given}
use Rattle.editor_state.specs.declared.pin.Pin.{Pin}

-- ---- what it stands for

-- the project of the pin with this number
abbrev pub pin_at : Sources → List Pin → ℕ → Option Project
pin_at src [] n = None
pin_at src (p ∷ ps) n = if n == p.number then Some (meant src p.point) else pin_at src ps n

-- the cells of what was copied
abbrev pub clip_cells : Sources → Option (List (List Item)) → Option (List (List Cell))
clip_cells src clip = option_map (map (strip_cells src)) clip

module _ {D : Type 0} where
  -- by where the samples of its blocks come from
  abbrev pub studio_by : Sources → Ghosts D → Core D → model.Studio
  studio_by src disk s = record {
    state = record {
      history = meant_history src s.history;
      clipboard = clip_cells src s.clipboard;
      pins = pin_at src s.pins;
      next_track = s.next_track;
      next_pin = s.next_pin;
      commit = s.commit_number;
    };
    stopped = s.stopped;
    rate = s.rate;
    block_size = s.block_size;
    next_block = s.next_block;
    file = s.file;
    version = s.version;
    generation = s.generation;
    journal_end = s.journal_end;
    next_layout = s.next_layout;
    read_faults = disk.read_fault_count s.store;
    change_faults = disk.change_fault_count s.store;
  }

  -- by the samples that its store reads
  abbrev pub studio_of : Ghosts D → Core D → model.Studio
  studio_of disk s = studio_by (sources_of (disk.reads s.store)) disk s

-- what opening a disk that keeps it finds
abbrev pub shown : model.Studio → Opened
shown t = record {
  rate = t.rate;
  block_size = t.block_size;
  history = t.state.history;
  next_track = t.state.next_track;
  commit = t.state.commit;
}

-- ---- the blocks that it names

abbrev pub clip_blocks : Option (List (List Item)) → List BlockRef
clip_blocks None = []
clip_blocks (Some strips) = flat_map strip_blocks strips

abbrev pub pin_blocks : List Pin → List BlockRef
pin_blocks pins = flat_map (λ (p : Pin). point_blocks p.point) pins

-- of its points, its pins and its clipboard
abbrev pub named_blocks : {D : Type 0} → Core D → List BlockRef
named_blocks s = history_blocks s.history ++ (pin_blocks s.pins ++ clip_blocks s.clipboard)

-- the tracks of its points and its pins, which use layouts
abbrev pub pin_tracks : List Pin → List Track
pin_tracks pins = flat_map (λ (p : Pin). p.point) pins

abbrev pub studio_tracks : {D : Type 0} → Core D → List Track
studio_tracks s = history_tracks s.history ++ pin_tracks s.pins

-- ---- what holds of it

-- the files of these blocks are the same
abbrev pub SameBlocks : List BlockRef → Files → Files → Type 0
SameBlocks bs files other = AllByRecursion (λ (b : BlockRef). other b.id ≡ files b.id) bs

-- the numbers of pins rise, and are below the next one
abbrev pub PinsRise : ℕ → ℕ → List Pin → Type 0
PinsRise least next [] = Unit {0}
PinsRise least next (p ∷ ps) = (least ≤ p.number) × (p.number < next) × PinsRise (p.number + 1) next ps

-- what was copied can be put in again at this block size: no more strips than a project may have tracks, and none is
-- longer than a track may be
pub record IsClipboard (m : ℕ) (strips : List (List Item)) : Type 0 where
  pub few : length strips ≤ MAX_TRACKS
  pub short : AllByRecursion (λ strip. strip_len strip ≤ MAX_CELLS) strips
  pub fits : AreClips m strips

abbrev pub MayPaste : ℕ → Option (List (List Item)) → Type 0
MayPaste m None = Unit {0}
MayPaste m (Some strips) = IsClipboard m strips

-- the counters are within their bounds
pub record AreCounters (next_block next_track next_pin commit end : ℕ) : Type 0 where
  pub block_least : FIRST_BLOCK ≤ next_block
  pub block_most : next_block ≤ COUNTER_LIMIT
  pub track_least : 1 ≤ next_track
  pub track_most : next_track ≤ COUNTER_LIMIT
  pub pin_least : 1 ≤ next_pin
  pub pin_most : next_pin ≤ COUNTER_LIMIT
  pub commit_most : commit ≤ COUNTER_LIMIT
  pub end_least : LEAST_END ≤ end
  pub end_most : end ≤ COUNTER_LIMIT

-- The journal stands in file 0 or 1, and its version and its generation are within their bounds.
pub record AreJournalNumbers (file version generation : ℕ) : Type 0 where
  pub among : file ≤ 1
  pub version_least : 1 ≤ version
  pub version_most : version ≤ 3
  pub generation_most : generation ≤ COUNTER_LIMIT
  pub first_version : version ≡ 1 → generation ≡ 0

-- The disk's journal is of the studio's form and generation. From the project with which it begins its records lead to
-- the studio's history, next track and commit number. A stop leaves each block that the studio names as the store reads
-- it. The ids that are counted are the block files.
pub record IsDurable {D : Type 0} (disk : Ghosts D) (s : Core D) : Type 0 where
  pub log : Log
  pub base : Saved
  pub kept : Saved
  pub there : IsAt (form_at s) disk s.store s.journal_end log
  pub generation : log.base.generation ≡ s.generation
  pub begins : Begins log base
  pub told : LeadIn (version_of (form_at s)) log.block_size base log.bodies kept
  pub rate : log.rate ≡ s.rate
  pub block_size : log.block_size ≡ s.block_size
  pub history : kept.history ≡ unnumbered_history s.history
  pub next_block : kept.next_block ≤ s.next_block
  pub next_track : kept.next_track ≡ s.next_track
  pub commit : kept.commit ≡ s.commit_number
  pub blocks : EachNow disk s.store (SameBlocks (named_blocks s) (disk.reads s.store))
  pub files : (id : ℕ) → FIRST_BLOCK ≤ id → id < COUNTER_LIMIT → IsSome (s.counts id) ↔ IsSome (disk.reads s.store id)

-- What holds of a studio whenever no call of it is under way, on every store, whatever it tells.
pub record IsStudio {D : Type 0} (disk : Ghosts D) (s : Core D) : Type 0 where
  pub format : IsFormat s.rate s.block_size s.history.depth
  pub counters : AreCounters s.next_block s.next_track s.next_pin s.commit_number s.journal_end
  pub journal : AreJournalNumbers s.file s.version s.generation
  pub few_points : length s.history.points ≤ s.history.depth
  pub few_clips : length (clip_blocks s.clipboard) ≤ 2 ^ 71
  pub points : AllByRecursion (IsValidTagged s.block_size s.next_block s.next_track s.commit_number) s.history.points
  pub pins : AllByRecursion (λ (p : Pin). IsValidPoint s.block_size s.next_block s.next_track p.point) s.pins
  pub numbers : PinsRise 1 s.next_pin s.pins
  pub clipboard : MayPaste s.block_size s.clipboard
  pub ids : AllByRecursion (λ (b : BlockRef). IsGiven s.next_block b.id) (named_blocks s)
  pub layouts : s.next_layout ≤ COUNTER_LIMIT
  -- layouts of one number are the same, and each number was drawn
  pub numbered : AreNumbered (studio_tracks s)
  pub drawn : AreDrawn s.next_layout (studio_tracks s)
  -- A layout is counted as often as a track of a point or a pin uses it. A block is counted as often as a layout that
  -- is used names it, and the clipboard.
  pub counted : AreCounts (studio_tracks s) (clip_blocks s.clipboard) s.uses s.counts
  pub given : (id : ℕ) → IsSome (s.counts id) → IsGiven s.next_block id
  -- the pages that it keeps are of blocks that were given
  pub pages : AllPass (is_given s.next_block) s.cache

-- The disk has what the studio stands for: it tells its bytes, each block that the studio names is whole as it reads,
-- and, as long as no change of it failed, its journal leads to the studio's history and a stop leaves all of this.
pub record IsHeld {D : Type 0} (disk : Ghosts D) (s : Core D) : Type 0 where
  pub tells : IsTrue (disk.tells s.store)
  pub whole : AllWhole (disk.reads s.store) (named_blocks s)
  pub durable : s.stopped ≡ None → IsDurable disk s
