-- What one call of a studio does.
use Rattle.std.specs.Prelude.{◌≡◌, ◌⊎◌, ℕ, ◌+◌, ◌-◌, ◌*◌, Option, None, IsSome, Result, Ok, Err, IfErr, IfOk, OnErr}
use Rattle.std.specs.Prelude.{List, length}
use Rattle.pcm_base.specs.{declared.answer.Reply.Reply, declared.command.Call.Call, declared.entry.SoundMove.SoundMove}
use Rattle.pcm_base.specs.{declared.refusal.Refusal.Refusal, Counters.Needs, Counters.commits_of, Counters.places_of}
use Rattle.pcm_base.specs.{Run.outside, Run.Answers, Run.CarriesOut}
use Rattle.disk_model.specs.{Disk.Files, Frames.Changed, Room.Room, Room.files_made, declared.store.Store.Ghosts}
use Rattle.sample_block.specs.Spelling.{size_of}
use Rattle.project_journal.specs.Gate.{EachNow, EachSince}
use Rattle.record_body.specs.Saved.{Keeps}
use Rattle.editor_state.specs.Core.{Core}
use Rattle.pcm_base.specs.Studio as model
pub use Rattle.editor_state.specs.Exchanges.{Exchange, exchange_of, freeing, quietly, silent, as_reply, with_sound}
use Rattle.editor_state.specs.Exchanges.{begun_in_vain}
use Rattle.editor_state.specs.Left.{CountsIds, LeavesOthers, Left, MayRemove, Stops, Untouched}
use Rattle.editor_state.specs.Packing.{packed_by, packs}
use Rattle.editor_state.specs.Purges.{Purges}
use Rattle.editor_state.specs.Records.{Records}
use Rattle.editor_state.specs.Removals.{Frees}
use Rattle.editor_state.specs.Spent.{NamesGiven, Needed}
use Rattle.editor_state.specs.Studios.{IsHeld, IsStudio, shown, studio_of}

-- the files keep the studio that the call leads to where nothing refuses it, which is so
pub record InFlight (t : model.Studio) (call : Call) (sound : SoundMove) (files : Files) : Type 0 where
  pub reply : Reply
  pub after : model.Studio
  pub carried : CarriesOut t call sound reply after
  pub keeps : Keeps files (shown after)

abbrev pub KeepsOneOf : model.Studio → Call → SoundMove → Files → Type 0
KeepsOneOf t call sound files = Keeps files (shown t) ⊎ InFlight t call sound files

-- the commit number after an answer
abbrev pub number_behind : {R : Type 0} → Result R Refusal → Call → ℕ → ℕ
number_behind (Ok r) call n = n + commits_of call
number_behind (Err why) call n = n

-- What a call asks of the disk that makes this many blocks, and a record with a body of this length where it is a
-- commit: the file of the journal is made where it is absent, and the next block may be begun in vain. A `compact`
-- makes a file, and writes this many bytes of it.
abbrev pub asks : Exchange → Option (List ℕ) → (m blocks len packed : ℕ) → Room
asks exchange journal m blocks len packed = record {
  files = files_made journal + packs exchange.call + (blocks + begun_in_vain exchange.told);
  bytes = places_of exchange.call len + packed + (blocks + begun_in_vain exchange.told) * size_of m;
  calls = 16 + 2 * blocks + 2 * length exchange.removed;
}

-- One call: a step of the model, the images at each moment, and what the disk has to do.
pub record Took {D : Type 0} (disk : Ghosts D) (old : Core D) (exchange : Exchange) (new : Core D) : Type 0 where
  -- it is a studio still, and the disk that held it holds it still
  pub studio : IsStudio disk new
  pub held : IsHeld disk old → IsHeld disk new
  pub step : IsHeld disk old
      → Answers (studio_of disk old) exchange.call exchange.sound exchange.told (studio_of disk new)
  -- at any moment each image has the project of before, or of the call carried out
  pub any_moment : old.stopped ≡ None → IsHeld disk old
      → EachSince disk old.store new.store (KeepsOneOf (studio_of disk old) exchange.call exchange.sound)
  -- after a refusal without a failed change that of before
  pub refused : old.stopped ≡ None → IsHeld disk old → new.stopped ≡ None
      → OnErr exchange.told (EachSince disk old.store new.store (λ c. Keeps c (shown (studio_of disk old))))
  -- and as long as the studio goes on, each image from now on that of after
  pub now : new.stopped ≡ None → IsHeld disk old
      → EachNow disk new.store (λ c. Keeps c (shown (studio_of disk new)))
  -- the commit number, whatever the disk tells
  pub number : new.commit_number ≡ number_behind exchange.told exchange.call old.commit_number
  -- a studio that had stopped does nothing but give a pin back
  pub rests : IsSome old.stopped → new ≡ record old { pins = new.pins; uses = new.uses; counts = new.counts }
  -- the length of a record that the call may need, and what of the disk was asked at most
  pub len : ℕ
  pub needs : IsHeld disk old → (blocks : ℕ)
      × Needs (outside (studio_of disk old) exchange.sound) (studio_of disk old) exchange.call blocks len
  pub records : Records old exchange.told new len
  -- the ids of blocks that it gave are named, and where a counter or the record has no room, the numbers are those of
  -- what it would have made
  pub given : IfOk exchange.told (λ r. NamesGiven old new)
  pub needed : IfErr exchange.told (Needed disk old exchange.call exchange.sound)
  -- no file goes or comes but the journal and those of blocks, here and in each image
  pub changed : Changed disk (LeavesOthers old.next_block new.next_block (MayRemove exchange.call old.counts))
      (asks exchange (disk.reads old.store old.file) old.block_size (new.next_block - old.next_block) len
      (packed_by old exchange.call))
      old.store new.store
  -- which files are removed, and which ids are counted then
  pub frees : Frees disk old exchange.call exchange.told exchange.removed new
  pub ids : CountsIds old exchange.removed new
  -- how many points a purge to a size drops, whatever the disk tells
  pub purges : Purges old.history exchange.call exchange.told
  -- and what is left of the disk and of the studio, whatever the disk tells
  pub untouched : Untouched disk old exchange.call exchange.told new
  pub stops : Stops disk old exchange.told new
  pub left : IfErr exchange.told (Left disk old new)
