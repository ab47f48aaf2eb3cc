-- What a call spends of the counters, and what it would have spent where one has no room for it.
use Rattle.std.specs.Prelude.{◌≡◌, ◌⊎◌, ℕ, suc, ◌+◌, ◌≤◌, ◌<◌, Some, List, length}
use Rattle.pcm_base.specs.Counters.{commits_of, generations_of, layouts_of, no_room, pins_of, tracks_of}
use Rattle.pcm_base.specs.{declared.answer.Reply.Reply, declared.command.Call.Call, declared.entry.SoundMove.SoundMove}
use Rattle.pcm_base.specs.{declared.refusal.Refusal.Refusal, History.History, Run.outside, Run.told_history}
use Rattle.pcm_base.specs.{declared.limits.TheConstants.LONGEST_BODY, Step.MayAnswer, Step.after}
use Rattle.disk_model.specs.declared.store.Store.{Ghosts}
use Rattle.sample_block.specs.Sources.{sources_of}
use Rattle.record_body.specs.{declared.body.Body.TheVariants.Edit, Batches.after_bodies, Saved.Saved}
use Rattle.record_body.specs.{Numbers.unnumbered_body}
use Rattle.project_state.specs.{declared.track.Track.Track, Meaning.meant_history, Numbers.unnumbered_history}
use Rattle.editor_state.specs.Edits.{IsEdit, IsPlanned, TaggedEdit}
use Rattle.editor_state.specs.Studios.{IsHeld, named_blocks, studio_of}
use Rattle.editor_state.specs.{Bodies.IsLength, Bodies.Writing, Core.Core, Occurrences.times_named, Records.Says}
use Rattle.pcm_base.specs.declared.refusal.Refusal.TheVariants as refusal

-- ---- of a call that is carried out

-- the studio names each block whose id was given
abbrev pub NamesGiven : {D : Type 0} → Core D → Core D → Type 0
NamesGiven old new = (id : ℕ) → old.next_block ≤ id → id < new.next_block → 0 < times_named id (named_blocks new)

-- ---- of one that a counter refuses, or the length of its record

-- An edit that makes this many blocks, by a plan of what the call leads to, and what it writes.
pub record Plans {D : Type 0} (disk : Ghosts D) (s : Core D) (call : Call) (sound : SoundMove) (blocks : ℕ) (w : Writing)
    : Type 0 where
  pub edit : TaggedEdit
  pub planned : IsPlanned s edit
  pub means : IsEdit disk s call sound edit
  pub blocks_are : blocks ≡ length edit.plan.makes
  pub writes : w ≡ record {
    more = edit.more;
    body = Edit edit.tag (s.next_block + blocks) (s.next_track + edit.plan.tracks) edit.plan.point;
  }

-- what the records so far say
abbrev pub saved_of : {D : Type 0} → Core D → Saved
saved_of s = record {
  history = unnumbered_history s.history;
  next_block = s.next_block;
  next_track = s.next_track;
  commit = s.commit_number;
}

-- A commit without blocks: what it writes leads from the studio's history to this one, as does the call by a reply that
-- it may give.
pub record Leads {D : Type 0} (disk : Ghosts D) (s : Core D) (call : Call) (sound : SoundMove) (w : Writing)
    : Type 0 where
  pub history : History (List Track)
  pub next_track : ℕ
  pub says : Says s.next_block next_track history w.body
  pub leads : (after_bodies (saved_of s) w.more (unnumbered_body w.body)).history ≡ unnumbered_history history
  pub reply : Reply
  pub answers : MayAnswer (outside (studio_of disk s) sound) (studio_of disk s).state call reply
  pub means : IsHeld disk s
      → told_history reply (after (outside (studio_of disk s) sound) (studio_of disk s).state call).history
      ≡ meant_history (sources_of (disk.reads s.store)) history

-- What a commit would have made: this many blocks, and records of this writing.
pub record WouldMake {D : Type 0} (disk : Ghosts D) (s : Core D) (call : Call) (sound : SoundMove) : Type 0 where
  pub writes : Writing
  pub commits : commits_of call ≡ suc writes.more
  pub blocks : ℕ
  pub so : Plans disk s call sound blocks writes ⊎ ((blocks ≡ 0) × Leads disk s call sound writes)

-- a counter at this number has no room for this many more
abbrev pub IsSpent : ℕ → ℕ → Refusal → Type 0
IsSpent have need why = no_room have need ≡ Some why

-- the track ids, the commit numbers, the pin numbers, the generations of the journal or the numbers of layouts
abbrev pub IsNumberSpent : {D : Type 0} → Ghosts D → Core D → Call → SoundMove → Refusal → Type 0
IsNumberSpent disk s call sound why = IsSpent s.next_track (tracks_of (outside (studio_of disk s) sound) call) why
    ⊎ (IsSpent s.commit_number (commits_of call) why ⊎ (IsSpent s.next_pin (pins_of call) why
    ⊎ (IsSpent s.generation (generations_of call) why
    ⊎ IsSpent s.next_layout (layouts_of (outside (studio_of disk s) sound) (studio_of disk s).state call) why)))

-- The numbers that are reported where a counter has no room, or the record is too long: those of the blocks and of the
-- record that the commit would have made.
abbrev pub Needed : {D : Type 0} → Ghosts D → Core D → Call → SoundMove → Refusal → Type 0
Needed disk s call sound (refusal.SpaceSpent have need) =
    IsNumberSpent disk s call sound (refusal.SpaceSpent have need)
    ⊎ ((it : WouldMake disk s call sound)
    × (IsSpent s.next_block it.blocks (refusal.SpaceSpent have need)
    ⊎ ((len : ℕ) × IsLength s it.writes len × IsSpent s.journal_end (6 + len) (refusal.SpaceSpent have need))))
Needed disk s call sound (refusal.RecordLimit n) =
    (it : WouldMake disk s call sound) × IsLength s it.writes n × (LONGEST_BODY < n)
Needed disk s call sound why = Unit {0}
