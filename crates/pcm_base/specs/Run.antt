-- The step of a studio as a relation, and whole runs.
use Rattle.std.specs.Prelude.{◌≡◌, ◌⊎◌, ℕ, ◌+◌, ◌-◌, ◌≤◌, IsTrue, List, [], ◌∷◌, take, Option, Some, None, IsSome}
use Rattle.std.specs.Prelude.{Result, Ok, Err}
use Rattle.pcm_base.specs.Causes.{Rose, Cause, Test, Damage, Disk, Vault, Memory, cause_of}
use Rattle.pcm_base.specs.Counters.{MayDraw, Needs, counter_tests, record_test, record_bytes}
use Rattle.pcm_base.specs.Outside.{Outside, Sounds, SameElsewhere}
use Rattle.pcm_base.specs.{declared.command.Command.Command, declared.command.Call.Call}
use Rattle.pcm_base.specs.{declared.refusal.Refusal.Refusal, declared.answer.Reply.Reply}
use Rattle.pcm_base.specs.{declared.entry.SoundMove.SoundMove, declared.entry.Entry.Entry}
use Rattle.pcm_base.specs.{declared.limits.TheConstants.COUNTER_LIMIT, History.History, History.purged}
use Rattle.pcm_base.specs.declared.command.Command.TheVariants as command
use Rattle.pcm_base.specs.declared.command.Call.TheVariants as call
use Rattle.pcm_base.specs.declared.refusal.Refusal.TheVariants as refusal
use Rattle.pcm_base.specs.declared.answer.Reply.TheVariants as reply
pub use Rattle.pcm_base.specs.Reach.{may_change_line, may_change, name_in_line, name_in}
use Rattle.pcm_base.specs.Refusals.{◌otherwise◌, call_tests}
use Rattle.pcm_base.specs.Shape.{Shape, NewTrack, DropTrack, SetTrack, PutIn, EditRange, CutRun, CopyRun, PasteRun}
use Rattle.pcm_base.specs.Shape.{MoveTo, Purge, PurgeTo, Look, Reclaim, Compact, Import, Export, Bounce, shape_of}
use Rattle.pcm_base.specs.State.{State}
use Rattle.pcm_base.specs.Step.{after, sound_after, mix_file, MayAnswer}
use Rattle.pcm_base.specs.Studio.{Studio, fault_sum}

-- what the call meets outside: the rate of the project, and the sound that it names as it was before
abbrev pub outside : Studio → SoundMove → Outside
outside t sound = record { rate = t.rate; sound = sound.before }

-- it was stopped by a change of the disk that failed
abbrev pub stop_of : Option ℕ → Option Refusal
stop_of (Some faults) = Some (refusal.Stopped faults)
stop_of None = None

-- a studio that was stopped does nothing but let pins go
abbrev pub stop_test : Option ℕ → Call → Option Refusal
stop_test stopped (call.Line c) = stop_of stopped
stop_test stopped (call.Piece track tag samples) = stop_of stopped
stop_test stopped call.Pin = stop_of stopped
stop_test stopped (call.PinLen pin) = stop_of stopped
stop_test stopped (call.ReadPin pin from count) = stop_of stopped
stop_test stopped (call.LoadPin pin from count) = stop_of stopped
stop_test stopped (call.Unpin pin) = None

-- all that refuses a call before a device is asked, want of memory aside, where it needs this many blocks and a record of
-- this length; the first in this order is told
abbrev pub refusal_of : Outside → Studio → Call → ℕ → ℕ → Option Refusal
refusal_of out t c blocks len =
    (stop_test t.stopped c) otherwise (call_tests out t.state c) otherwise (counter_tests out t c blocks len) otherwise
    (record_test len)

-- the studio after a call that nothing refuses and that leaves this next layout, but for the journal of one that is
-- packed, and for the points that a purge to a size drops
abbrev pub followed : Outside → Studio → Call → (blocks len layout : ℕ) → Studio
followed out t c blocks len layout = record t {
  state = after out t.state c;
  next_block = t.next_block + blocks;
  journal_end = t.journal_end + record_bytes c len;
  next_layout = layout;
}

-- The journal stands in the other file from then on, in version 3, in the next generation and at its end: the last of
-- these bytes is the gate of the next record.
abbrev pub packed : ℕ → Studio → Studio
packed bytes t = record t {
  file = 1 - t.file;
  version = 3;
  generation = t.generation + 1;
  journal_end = bytes - 1;
}

-- the history after the answer: this many of the oldest points are gone
abbrev pub told_history : {P : Type 0} → Reply → History P → History P
told_history (reply.Purged n) h = purged h n
told_history r h = h

abbrev pub told_state : Reply → State → State
told_state r s = record s { history = told_history r s.history }

abbrev pub forgotten : ℕ → Studio → Studio
forgotten n t = record t { state = told_state (reply.Purged n) t.state }

-- the studio after the answer: the journal is another one where it was packed, and the points that it says are gone
abbrev pub answered : Reply → Studio → Studio
answered reply.Done t = t
answered reply.Copied t = t
answered (reply.Cells cells) t = t
answered (reply.Frames frames) t = t
answered (reply.Columns columns) t = t
answered (reply.Tracks tracks) t = t
answered (reply.Freed count) t = t
answered (reply.Packed bytes) t = packed bytes t
answered (reply.Purged n) t = forgotten n t
answered (reply.Wrote bytes) t = t
answered (reply.Pinned pin) t = t
answered (reply.Length frames) t = t
answered (reply.Loaded tracks) t = t
answered (reply.Refused why) t = t

-- a call was carried out, with this many new blocks, a record of this length and this next layout after it
pub record CarriesOut (t : Studio) (c : Call) (sound : SoundMove) (r : Reply) (u : Studio) : Type 0 where
  pub blocks : ℕ
  pub len : ℕ
  pub layout : ℕ
  pub needs : Needs (outside t sound) t c blocks len
  pub passed : refusal_of (outside t sound) t c blocks len ≡ None
  pub draws : MayDraw (outside t sound) t c layout
  pub answers : MayAnswer (outside t sound) t.state c r
  pub is : u ≡ answered r (followed (outside t sound) t c blocks len layout)
  pub heard : sound.after ≡ sound_after (outside t sound) t.state c

-- a test refuses a call, and nothing changes
pub record Refuses (t : Studio) (c : Call) (sound : SoundMove) (why : Refusal) (u : Studio) : Type 0 where
  pub blocks : ℕ
  pub len : ℕ
  pub needs : Needs (outside t sound) t c blocks len
  pub first : refusal_of (outside t sound) t c blocks len ≡ Some why
  pub same : u ≡ t
  pub quiet : sound.after ≡ sound.before

-- No point has to go for the files to have at most this many bytes, or the oldest point is current. The sizes of the
-- files decide which, and the model has none of them.
pub record LeavesAll (t : Studio) (c : Call) (sound : SoundMove) (why : Refusal) (u : Studio) : Type 0 where
  pub bytes : ℕ
  pub line : c ≡ call.Line (command.PurgeTo bytes)
  pub going : t.stopped ≡ None
  pub reason : why ≡ refusal.BadRange
  pub same : u ≡ t
  pub quiet : sound.after ≡ sound.before

-- a read failed and the studio goes on
pub record ReadFailed (t u : Studio) : Type 0 where
  pub goes_on : u.stopped ≡ None
  pub rose : Rose t.read_faults u.read_faults
  pub later : t.read_faults ≤ u.read_faults
  pub changes : u.change_faults ≡ t.change_faults

-- a change failed and stops the studio, which keeps the count of faults
pub record ChangeFailed (t u : Studio) : Type 0 where
  pub stopped : u.stopped ≡ Some (fault_sum u.read_faults u.change_faults)
  pub rose : Rose t.change_faults u.change_faults
  pub later : t.change_faults ≤ u.change_faults
  pub reads : u.read_faults ≡ t.read_faults

-- a file holds a part of the mix from its front, or is as it was
abbrev pub IsPartOfMix : ℕ → Studio → SoundMove → Type 0
IsPartOfMix rate t sound =
    (sound.after ≡ sound.before) ⊎ ((count : ℕ) × (sound.after ≡ Some (take count (mix_file rate t.state))))

-- a call that was broken off leaves the sound as it was, an export a part of it
abbrev pub LeavesBy : Studio → Shape → SoundMove → Type 0
LeavesBy t NewTrack sound = sound.after ≡ sound.before
LeavesBy t (DropTrack id) sound = sound.after ≡ sound.before
LeavesBy t (SetTrack id setting) sound = sound.after ≡ sound.before
LeavesBy t (PutIn id at source) sound = sound.after ≡ sound.before
LeavesBy t (EditRange id from to edit) sound = sound.after ≡ sound.before
LeavesBy t (CutRun id n from to removing) sound = sound.after ≡ sound.before
LeavesBy t (CopyRun id n from to) sound = sound.after ≡ sound.before
LeavesBy t (PasteRun id at placing) sound = sound.after ≡ sound.before
LeavesBy t (MoveTo move) sound = sound.after ≡ sound.before
LeavesBy t (Purge n) sound = sound.after ≡ sound.before
LeavesBy t (PurgeTo bytes) sound = sound.after ≡ sound.before
LeavesBy t (Look view) sound = sound.after ≡ sound.before
LeavesBy t (Reclaim limit) sound = sound.after ≡ sound.before
LeavesBy t Compact sound = sound.after ≡ sound.before
LeavesBy t (Import name) sound = sound.after ≡ sound.before
LeavesBy t (Export name) sound = IsPartOfMix t.rate t sound
LeavesBy t (Bounce name) sound = sound.after ≡ sound.before

abbrev pub LeavesLine : Studio → Command → SoundMove → Type 0
LeavesLine t c sound = LeavesBy t (shape_of c) sound

abbrev pub Leaves : Studio → Call → SoundMove → Type 0
Leaves t (call.Line c) sound = LeavesLine t c sound
Leaves t (call.Piece track tag samples) sound = sound.after ≡ sound.before
Leaves t call.Pin sound = sound.after ≡ sound.before
Leaves t (call.PinLen pin) sound = sound.after ≡ sound.before
Leaves t (call.ReadPin pin from count) sound = sound.after ≡ sound.before
Leaves t (call.LoadPin pin from count) sound = sound.after ≡ sound.before
Leaves t (call.Unpin pin) sound = sound.after ≡ sound.before

-- A device broke a call off: ids of blocks may have been given, no more than the call may need and there is room for,
-- and all else is as before.
pub record BreaksOff (t : Studio) (c : Call) (sound : SoundMove) (u : Studio) : Type 0 where
  pub going : t.stopped ≡ None
  pub blocks : ℕ
  pub len : ℕ
  pub needs : Needs (outside t sound) t c blocks len
  pub room : t.next_block + blocks ≤ COUNTER_LIMIT
  pub is : u ≡ record t {
    stopped = u.stopped;
    next_block = t.next_block + blocks;
    read_faults = u.read_faults;
    change_faults = u.change_faults;
  }
  pub leaves : Leaves t c sound

-- the disk failed: a read, or a change where the call makes one
pub record DiskFails (t : Studio) (c : Call) (sound : SoundMove) (u : Studio) : Type 0 where
  pub breaks : BreaksOff t c sound u
  pub cause : ReadFailed t u ⊎ (IsTrue (may_change c) × ChangeFailed t u)

-- a file of the disk, or the vault, is not as it has to be, and the studio goes on
pub record GoesOn (t : Studio) (c : Call) (sound : SoundMove) (u : Studio) : Type 0 where
  pub breaks : BreaksOff t c sound u
  pub stopped : u.stopped ≡ None
  pub reads : u.read_faults ≡ t.read_faults
  pub changes : u.change_faults ≡ t.change_faults

-- there was no memory, and nothing changes
pub record Wants (t : Studio) (sound : SoundMove) (u : Studio) : Type 0 where
  pub same : u ≡ t
  pub quiet : sound.after ≡ sound.before

-- want of memory, or a device, in the place of what comes later
abbrev pub BreaksBy : Cause → Studio → Call → SoundMove → Studio → Type 0
BreaksBy Test t c sound u = ⊥
BreaksBy Damage t c sound u = GoesOn t c sound u
BreaksBy Disk t c sound u = DiskFails t c sound u
BreaksBy Vault t c sound u = IsSome (name_in c) × GoesOn t c sound u
BreaksBy Memory t c sound u = Wants t sound u

abbrev pub Breaks : Studio → Call → SoundMove → Refusal → Studio → Type 0
Breaks t c sound why u = BreaksBy (cause_of why) t c sound u

-- a reply, or why there is none
abbrev pub result_of : Reply → Result Reply Refusal
result_of reply.Done = Ok reply.Done
result_of reply.Copied = Ok reply.Copied
result_of (reply.Cells cells) = Ok (reply.Cells cells)
result_of (reply.Frames frames) = Ok (reply.Frames frames)
result_of (reply.Columns columns) = Ok (reply.Columns columns)
result_of (reply.Tracks tracks) = Ok (reply.Tracks tracks)
result_of (reply.Freed count) = Ok (reply.Freed count)
result_of (reply.Packed bytes) = Ok (reply.Packed bytes)
result_of (reply.Purged n) = Ok (reply.Purged n)
result_of (reply.Wrote bytes) = Ok (reply.Wrote bytes)
result_of (reply.Pinned pin) = Ok (reply.Pinned pin)
result_of (reply.Length frames) = Ok (reply.Length frames)
result_of (reply.Loaded tracks) = Ok (reply.Loaded tracks)
result_of (reply.Refused why) = Err why

-- what a call answers, and the studio after it
abbrev pub Answers : Studio → Call → SoundMove → Result Reply Refusal → Studio → Type 0
Answers t c sound (Ok r) u = CarriesOut t c sound r u
Answers t c sound (Err why) u = Refuses t c sound why u ⊎ (LeavesAll t c sound why u ⊎ Breaks t c sound why u)

-- one step: a call, what becomes of the sound that it names, the reply, and the studio after it
abbrev pub Step : Studio → Call → SoundMove → Reply → Studio → Type 0
Step t c sound r u = Answers t c sound (result_of r) u

-- from t the entries lead to u, each a step from where the last one left
abbrev pub Run : Studio → List Entry → Studio → Type 0
Run t [] u = u ≡ t
Run t (e ∷ es) u = (mid : Studio) × Step t e.call e.sound e.reply mid × Run mid es u

-- the sounds of a vault before and after a turn: the one that the call names as the entry says, and no other changes
abbrev pub Heard : Option (List ℕ) → SoundMove → Sounds → Sounds → Type 0
Heard None sound old new = new ≡ old
Heard (Some name) sound old new = (old name ≡ sound.before) × (new name ≡ sound.after) × SameElsewhere name old new

-- the vault from entry to entry
abbrev pub Follows : Sounds → List Entry → Sounds → Type 0
Follows old [] new = new ≡ old
Follows old (e ∷ es) new = (mid : Sounds) × Heard (name_in e.call) e.sound old mid × Follows mid es new
