-- A list of events, carried out one after another.
use Rattle.std.specs.Prelude.{◌≡◌, ◌⊎◌, ℕ, ◌-◌, ◌≤◌, Bool, None, List, [], ◌∷◌, ◌++◌, Result, Ok, Err}
use Rattle.std.specs.List.{AllByRecursion}
use Rattle.pcm_base.specs.{declared.answer.Answer.Answer, declared.answer.Reply.Reply, declared.command.Call.Call}
use Rattle.pcm_base.specs.{declared.entry.Entry.Entry, declared.entry.Event.Event, declared.refusal.Refusal.Refusal}
use Rattle.pcm_base.specs.{Form.IsCallInForm, Outside.Sounds, Run.Follows, Run.Run, Run.result_of}
use Rattle.disk_model.specs.{Disk.Files, Frames.Changed, Room.Room, Room.together, declared.store.Store.Ghosts}
use Rattle.project_journal.specs.Gate.{EachNow, EachSince}
use Rattle.record_body.specs.Saved.{Keeps}
use Rattle.editor_state.specs.Applied.{Applies, IsTold, Span, exchange_over, spanned}
use Rattle.editor_state.specs.Studios.{IsHeld, IsStudio, shown, studio_of}
use Rattle.editor_state.specs.{Core.Core, Left.LeavesForeign, Packing.packed_by, Took.InFlight, Took.asks}
use Rattle.pcm_base.specs.declared.command.Call.TheVariants as call
use Rattle.pcm_base.specs.declared.refusal.Refusal.TheVariants as refusal
use Rattle.pcm_base.specs.Studio as model

-- each call is in form, where this many commits were made at least
abbrev pub AreInForm : ℕ → List Event → Type 0
AreInForm commit events = AllByRecursion (λ (e : Event). IsCallInForm commit e.call) events

-- a call that is no line of the script
abbrev pub IsOther : Call → Type 0
IsOther (call.Line c) = ⊥
IsOther (call.Piece track tag samples) = Unit {0}
IsOther call.Pin = Unit {0}
IsOther (call.PinLen pin) = Unit {0}
IsOther (call.ReadPin pin from count) = Unit {0}
IsOther (call.LoadPin pin from count) = Unit {0}
IsOther (call.Unpin pin) = Unit {0}

-- an entry for each event and its answer
abbrev pub AreEntries : List Event → List Answer → List Entry → Type 0
AreEntries [] [] [] = Unit {0}
AreEntries [] [] (x ∷ xs) = ⊥
AreEntries [] (a ∷ rs) xs = ⊥
AreEntries (e ∷ es) [] xs = ⊥
AreEntries (e ∷ es) (a ∷ rs) [] = ⊥
AreEntries (e ∷ es) (a ∷ rs) (x ∷ xs) =
    (x.actor ≡ e.actor) × (x.call ≡ e.call) × (x.reply ≡ a.reply) × AreEntries es rs xs

-- the vault tells its bytes, where an event names a sound
abbrev pub AreTold : Bool → List Event → Type 0
AreTold tells events = AllByRecursion (λ (e : Event). IsTold e.call tells) events

-- Each event is carried out or refused by its call over the vault, one after another, and its answer has the commit
-- number after it.
abbrev pub EventChain : {D : Type 0} → Ghosts D → Bool → Core D → Sounds → List Event → List Answer → Core D → Sounds
    → Type 0
EventChain disk tells old before [] [] new after = (new ≡ old) × (after ≡ before)
EventChain disk tells old before [] (a ∷ rs) new after = ⊥
EventChain disk tells old before (e ∷ es) [] new after = ⊥
EventChain {D} disk tells old before (e ∷ es) (a ∷ rs) new after =
    (mid : Core D) × (here : Sounds) × (told : Result Reply Refusal)
    × Applies disk (spanned tells old mid before here) e.call told a × EventChain disk tells mid here es rs new after

-- what all of them ask of the disk
abbrev pub events_ask : {D : Type 0} (disk : Ghosts D) (tells : Bool) (old : Core D) (before : Sounds)
    (events : List Event) (answers : List Answer) (new : Core D) (after : Sounds)
    → EventChain disk tells old before events answers new after → Room
events_ask disk tells old before [] answers new after chain = record { files = 0; bytes = 0; calls = 0 }
events_ask disk tells old before (e ∷ es) [] new after chain = record { files = 0; bytes = 0; calls = 0 }
events_ask disk tells old before (e ∷ es) (a ∷ rs) new after chain =
    let mid = chain.0 in
    let over = chain.3.over in
    together
    (asks (exchange_over (spanned tells old mid before chain.1) e.call chain.3.told over.removed)
    (disk.reads old.store old.file) old.block_size (mid.next_block - old.next_block) over.lasts.len
    (packed_by old e.call))
    (events_ask disk tells mid chain.1 es rs new after chain.4)

-- a call that ended so may have reached the disk: it was carried out, or a change of the disk failed in it
abbrev pub MayFly : Result Reply Refusal → Type 0
MayFly (Ok r) = Unit {0}
MayFly (Err refusal.DiskFault) = Unit {0}
MayFly (Err why) = ⊥

-- the files keep what the first of some entries leads to where nothing refuses it, which is so; and no test and no want
-- of memory refused it
abbrev pub NextInFlight : model.Studio → List Entry → Files → Type 0
NextInFlight u [] files = ⊥
NextInFlight u (e ∷ es) files = InFlight u e.call e.sound files × MayFly (result_of e.reply)

-- the files keep the project after some of the first entries of a run, or that of the next one, which is in flight
pub record KeepsPrefix (t : model.Studio) (entries : List Entry) (files : Files) : Type 0 where
  pub front : List Entry
  pub back : List Entry
  pub cut : entries ≡ front ++ back
  pub reached : model.Studio
  pub run : Run t front reached
  pub keeps : Keeps files (shown reached) ⊎ NextInFlight reached back files

-- Events carried out, one after another. Where the vault reports its bytes, or none of them names a sound, they are
-- with their replies a run, whose sounds are the vault's, from entry to entry. At any moment each image has the project
-- after some of the first entries, the one in flight counted last. At the end, where the studio is not stopped, it has
-- that after all of them.
pub record RanOver {D : Type 0} (disk : Ghosts D) (span : Span D) (events : List Event) (answers : List Answer)
    : Type 0 where
  pub chain : EventChain disk span.tells span.old span.old_sounds events answers span.new span.new_sounds
  pub entries : List Entry
  pub are : AreEntries events answers entries
  pub studio : IsStudio disk span.new
  -- no file changes but the journal and those of blocks, and the disk has no more to do than each event asks
  pub changed : Changed disk LeavesForeign
      (events_ask disk span.tells span.old span.old_sounds events answers span.new span.new_sounds chain)
      span.old.store span.new.store
  pub number : span.old.commit_number ≤ span.new.commit_number
  pub held : AreTold span.tells events → IsHeld disk span.old → IsHeld disk span.new
  pub run : AreTold span.tells events → IsHeld disk span.old
      → Run (studio_of disk span.old) entries (studio_of disk span.new)
  pub follows : AreTold span.tells events → Follows span.old_sounds entries span.new_sounds
  pub any_moment : AreTold span.tells events → span.old.stopped ≡ None → IsHeld disk span.old
      → EachSince disk span.old.store span.new.store (KeepsPrefix (studio_of disk span.old) entries)
  pub now : AreTold span.tells events → span.new.stopped ≡ None → IsHeld disk span.old
      → EachNow disk span.new.store (λ c. Keeps c (shown (studio_of disk span.new)))
