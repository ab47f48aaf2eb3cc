-- An edit that makes blocks: what is known of it before anything of the disk is changed, and what carrying it out
-- leaves.
use Rattle.std.specs.Prelude.{◌≡◌, ◌⊎◌, ℕ, suc, ◌+◌, ◌^◌, ◌≤◌, ◌<◌, ℤ, pos, Option, Some, None, List, ◌++◌, length, map}
use Rattle.std.specs.Prelude.{Result, Ok, Err, Contains, true, false, IsTrue}
use Rattle.std.specs.List.{AllByRecursion}
use Rattle.pcm_base.specs.Counters.{Needs, RecordsNeed, layouts_of, no_room}
use Rattle.pcm_base.specs.{declared.block.BlockRef.BlockRef, declared.command.Call.Call}
use Rattle.pcm_base.specs.{declared.entry.SoundMove.SoundMove, declared.refusal.Refusal.Refusal}
use Rattle.pcm_base.specs.{declared.wav.WavFault.TheVariants.Truncated, History.History, History.recorded}
use Rattle.pcm_base.specs.{Outside.Outside, Pieces.Sources, Refusals.◌otherwise◌, Refusals.call_tests, Run.outside}
use Rattle.pcm_base.specs.{declared.limits.TheConstants.COUNTER_LIMIT, declared.limits.TheConstants.LONGEST_BODY}
use Rattle.pcm_base.specs.{State.State, Step.after}
use Rattle.disk_model.specs.declared.store.Store.{Ghosts}
use Rattle.clip_track.specs.declared.items.Item.{Item}
use Rattle.edit_ops.specs.declared.types.NewBlock.{NewBlock}
use Rattle.edit_ops.specs.Plans.{AreNew, AreWritten, AllNewFrom, ref_of}
use Rattle.block_writer.specs.Brought.{Brought}
use Rattle.project_journal.specs.Journal.{rows_length}
use Rattle.project_state.specs.{declared.track.Track.Track, Meaning.meant_history, Meaning.point_blocks}
use Rattle.project_state.specs.Kept.{KeepsTracks}
use Rattle.record_body.specs.{Saved.current_tracks, SavedValid.IsValidPoint}
use Rattle.layout_uses.specs.Drawing.{HasNumbers}
use Rattle.editor_state.specs.Studios.{MayPaste, clip_blocks, clip_cells, named_blocks, studio_by}
use Rattle.editor_state.specs.{declared.planned.Planned.Planned, Adding.Adds, Adding.OutgrowsBy, Commits.IsCommitCall}
use Rattle.editor_state.specs.{Core.Core, Exchanges.may_begin, Exchanges.reads_sound, Made.PiecesReadable}
use Rattle.editor_state.specs.{Made.batch_of, Made.ids_from, Makes.AreSynced, Makes.Making, Makes.Stuck}
use Rattle.pcm_base.specs.declared.refusal.Refusal.TheVariants as refusal
use Rattle.pcm_base.specs.Studio as model

-- ---- what is planned

-- the blocks that an edit may name: those that the studio names, and those that are made for it
abbrev pub blocks_with : {D : Type 0} → Core D → List NewBlock → List BlockRef
blocks_with s makes = named_blocks s ++ map ref_of makes

abbrev pub AreAmong : List BlockRef → List BlockRef → Type 0
AreAmong every bs = AllByRecursion (Contains every) bs

-- an edit: its plan, the tag of its new point, where 0 is none, how many commits it is beside one, how many samples its
-- command brings, and which
pub record TaggedEdit : Type 0 where
  pub plan : Planned
  pub tag : ℕ
  pub more : ℕ
  pub count : ℕ
  pub given : ℕ → ℤ

abbrev pub tagged : Planned → (tag more count : ℕ) → (ℕ → ℤ) → TaggedEdit
tagged plan tag more count given = record { plan = plan; tag = tag; more = more; count = count; given = given }

-- the same of samples that may be brought, of which some are known
abbrev pub tagged_by : Planned → (tag more : ℕ) → Brought → (ℕ → ℤ) → TaggedEdit
tagged_by plan tag more b given = tagged plan tag more b.count given

-- the clipboard after an edit: what it takes out, or what was there
abbrev pub clip_then : {A : Type 0} → Option A → Option A → Option A
clip_then None old = old
clip_then (Some new) old = Some new

abbrev pub clip_behind : {D : Type 0} → Core D → Planned → Option (List (List Item))
clip_behind s p = clip_then p.clip s.clipboard

abbrev pub history_behind : {D : Type 0} → Core D → TaggedEdit → History (List Track)
history_behind s e = recorded s.history e.plan.point e.tag

-- What is planned for a studio: a new point for the history, with its tag, what the clipboard becomes, and the blocks
-- that are to be made for both, of blocks that the studio names, and of what the command brings. The point names each
-- of these.
pub record IsPlanned {D : Type 0} (s : Core D) (e : TaggedEdit) : Type 0 where
  pub new : AreNew s.block_size s.next_block e.plan.makes
  pub readable : PiecesReadable e.count e.plan.makes
  pub origin : AllNewFrom (named_blocks s) e.count e.plan.makes
  pub tag_given : e.tag ≤ s.commit_number
  pub tag_counts : 0 < e.more → 1 ≤ e.tag
  pub layouts : HasNumbers (current_tracks s.history) s.next_layout e.plan.point (s.next_layout + e.plan.layouts)
  pub valid : IsValidPoint s.block_size (s.next_block + length e.plan.makes) (s.next_track + e.plan.tracks) e.plan.point
  pub kept : KeepsTracks e.plan.kept (current_tracks s.history) e.plan.point
  pub names : AreAmong (blocks_with s e.plan.makes) (point_blocks e.plan.point)
  pub used : AreAmong (point_blocks e.plan.point) (map ref_of e.plan.makes)
  pub clip_names : AreAmong (blocks_with s e.plan.makes) (clip_blocks (clip_behind s e.plan))
  pub clip_few : length (clip_blocks (clip_behind s e.plan)) ≤ 2 ^ 71
  pub clip_fits : MayPaste s.block_size (clip_behind s e.plan)

-- ---- what it means

-- what the call meets outside, in a project of this rate
abbrev pub outside_at : ℕ → SoundMove → Outside
outside_at rate sound = record { rate = rate; sound = sound.before }

-- A call that is an edit: this many blocks it may make, by the block size and the state before it.
pub record IsEditCall (c : Call) (sound : SoundMove) (tracks more : ℕ) (most : ℕ → State → ℕ) : Type 0 where
  pub commit : IsCommitCall c sound tracks more
  pub needs : (rate : ℕ) (t : model.Studio) (blocks len : ℕ)
      → RecordsNeed more (most t.block_size t.state) (outside_at rate sound) t c blocks len
      → Needs (outside_at rate sound) t c blocks len
  pub needed : (rate : ℕ) (t : model.Studio) (blocks len : ℕ) → Needs (outside_at rate sound) t c blocks len
      → RecordsNeed more (most t.block_size t.state) (outside_at rate sound) t c blocks len

-- blocks of these samples, by their ids, and what a command brings beside them
abbrev pub beside : (ℕ → ℕ → ℤ) → (ℕ → ℤ) → Sources
beside block given = record { block = block; given = given }

abbrev pub alone : (ℕ → ℕ → ℤ) → Sources
alone block = beside block (λ _. pos 0)

-- The call leads to the history and the clipboard after the edit, once its blocks are made, whatever samples the
-- blocks have.
pub record IsEdit {D : Type 0} (disk : Ghosts D) (s : Core D) (c : Call) (sound : SoundMove) (e : TaggedEdit)
    : Type 0 where
  pub most : ℕ → State → ℕ
  pub call : IsEditCall c sound e.plan.tracks e.more most
  pub few : (block : ℕ → ℕ → ℤ) → length e.plan.makes ≤ most s.block_size (studio_by (alone block) disk s).state
  pub own : (block : ℕ → ℕ → ℤ)
      → call_tests (outside (studio_by (alone block) disk s) sound) (studio_by (alone block) disk s).state c ≡ None
  pub layouts : (block : ℕ → ℕ → ℤ)
      → layouts_of (outside (studio_by (alone block) disk s) sound) (studio_by (alone block) disk s).state c
      ≡ e.plan.layouts
  pub means : (block : ℕ → ℕ → ℤ) → AreWritten (beside block e.given) e.plan.makes
      → after (outside (studio_by (alone block) disk s) sound) (studio_by (alone block) disk s).state c
      ≡ record (studio_by (alone block) disk s).state {
        history = meant_history (alone block) (history_behind s e);
        clipboard = clip_cells (alone block) (clip_behind s e.plan);
        next_track = s.next_track + e.plan.tracks;
        commit = s.commit_number + suc e.more;
      }

-- ---- what carrying it out leaves

-- the next block, the next track or the commit number has no room
abbrev pub Spends : {D : Type 0} → Core D → (blocks tracks count : ℕ) → Refusal → Type 0
Spends s blocks tracks count why =
    (no_room s.next_block blocks) otherwise (no_room s.next_track tracks) otherwise (no_room s.commit_number count)
    ≡ Some why

-- what is prepared for this many blocks, track ids, layouts and commits, and records of this length, so that nothing
-- but the disk can refuse
pub record IsPrepared {D : Type 0} (s : Core D) (made tracks layouts count len : ℕ) : Type 0 where
  pub blocks : s.next_block + made ≤ COUNTER_LIMIT
  pub ids : s.next_track + tracks ≤ COUNTER_LIMIT
  pub number : s.commit_number + count ≤ COUNTER_LIMIT
  pub place : s.journal_end + (6 + len) ≤ COUNTER_LIMIT
  pub numbers : s.next_layout + layouts ≤ COUNTER_LIMIT
  pub short : len ≤ LONGEST_BODY

-- a counter has no room, or else the journal has none for the records, numbers of layouts are not left, or the records
-- are too long
abbrev pub Unprepared : {D : Type 0} → Core D → (blocks tracks layouts count whole len : ℕ) → Refusal → Type 0
Unprepared s blocks tracks layouts count whole len why =
    Spends s blocks tracks count why
    ⊎ ((s.next_block + blocks ≤ COUNTER_LIMIT) × (s.next_track + tracks ≤ COUNTER_LIMIT)
    × (s.commit_number + count ≤ COUNTER_LIMIT) × OutgrowsBy s.journal_end s.next_layout layouts whole len why)

-- why it is not prepared: that, or memory
abbrev pub NotPrepared : {D : Type 0} → Core D → (blocks tracks layouts count whole len : ℕ) → Refusal → Type 0
NotPrepared s blocks tracks layouts count whole len why =
    (why ≡ refusal.NoMemory) ⊎ Unprepared s blocks tracks layouts count whole len why

-- commits that make blocks: the blocks, what their command brings for them, how many track ids and layouts they give
-- and how many they are, the bodies of their records, and how long these are written out whole
pub record BlockCommit : Type 0 where
  pub makes : List NewBlock
  pub given : ℕ → ℤ
  pub tracks : ℕ
  pub layouts : ℕ
  pub count : ℕ
  pub bodies : List (List ℕ)
  pub whole : ℕ

-- blocks made, in each image from then on, and then the records added
pub record Committed {D : Type 0} (disk : Ghosts D) (old : Core D) (c : BlockCommit)
    (result : Result (Unit {0}) Refusal) (new : Core D) : Type 0 where
  pub mid : Core D
  pub making : Making disk old (batch_of c.given c.makes) (length c.makes) mid
  pub reads : disk.read_fault_count mid.store ≡ disk.read_fault_count old.store
  pub synced : AreSynced disk (ids_from old.next_block (length c.makes)) mid.store
  pub prepared : IsPrepared old (length c.makes) c.tracks c.layouts c.count (rows_length c.bodies)
  pub adds : Adds disk mid c.bodies c.count c.whole result new

-- All of it: want of memory comes before the first block is made, and then the disk and the vault alone refuse.
abbrev pub Carried : {D : Type 0} → Ghosts D → Core D → BlockCommit → Result (Unit {0}) Refusal → Core D → Type 0
Carried disk old c (Ok done) new = Committed disk old c (Ok done) new
Carried disk old c (Err why) new =
    ((new ≡ old) × NotPrepared old (length c.makes) c.tracks c.layouts c.count c.whole (rows_length c.bodies) why)
    ⊎ ((IsPrepared old (length c.makes) c.tracks c.layouts c.count (rows_length c.bodies)
    × Stuck disk old (batch_of c.given c.makes) why new)
    ⊎ ((why ≡ refusal.DiskFault) × Committed disk old c (Err why) new))

-- a refusal that no device had a part in leaves the studio as it was
abbrev pub IsStill : {D : Type 0} → Core D → Core D → Refusal → Type 0
IsStill old new why = may_begin why ≡ false → new ≡ old

-- samples that may fail to come are brought only for a call that reads a sound
abbrev pub MayServe : Brought → Call → Type 0
MayServe b c = IsTrue b.may_fail → reads_sound c ≡ true

-- the same, where this refusal came
abbrev pub Serves : Call → Refusal → Type 0
Serves c refusal.VaultFault = reads_sound c ≡ true
Serves c (refusal.BadWav (Truncated want have)) = reads_sound c ≡ true
Serves c why = Unit {0}
