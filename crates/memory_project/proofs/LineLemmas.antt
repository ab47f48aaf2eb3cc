-- One line: nothing refuses it, so it is carried out, or there is no memory for it.
use Rattle.std.proofs.Common.{◌≡◌, ⊎_elim, ℕ, ◌+◌, ◌-◌, ◌≤◌, IsTrue, None, Err, Ok, Result, IfErr, refl, sym, ap, ◌∙◌}
use Rattle.std.proofs.Common.{Bool, true, false, if◌then◌else◌, List, length, Option, Some, subst, arith, inl, inr, ◌⊎◌}
use Rattle.std.proofs.lemmas.Option.{none-some}
use Rattle.pcm_base.specs.Counters.{Needs, commits_of, places_of}
use Rattle.pcm_base.specs.Run.{Answers, Breaks, CarriesOut, ChangeFailed, DiskFails, LeavesAll, ReadFailed, Refuses}
use Rattle.pcm_base.specs.Run.{may_change, name_in_line, outside, refusal_of, stop_of}
use Rattle.pcm_base.specs.{declared.answer.Reply.Reply, declared.command.Call.Call}
use Rattle.pcm_base.specs.{declared.command.Call.TheVariants.Line, declared.command.Command.Command}
use Rattle.pcm_base.specs.{declared.refusal.Refusal.Refusal, Causes.Rose, Refusals.◌otherwise◌, Studio.Studio}
use Rattle.disk_model.specs.{Frames.asked, Room.Room, Room.files_made, Room.together, declared.store.Store.Ghosts}
use Rattle.envelope_view.specs.Answers.{IsUndamaged}
use Rattle.editor_state.specs.Took.{Exchange, Took, asks, quietly, silent, as_reply}
use Rattle.editor_state.specs.{Applied.EndsAlike, Core.Core, Left.LeavesOthers, Left.MayRemove, Packing.packed_by}
use Rattle.editor_state.specs.{Packing.packs, Reads.Looks, Studios.IsHeld, Studios.studio_of, Exchanges.begun_in_vain, Exchanges.is_broken_off}
use Rattle.model_laws.proofs.Answered.{carried_is}
use Rattle.script_gen.proofs.Passing.{places-few}
use Rattle.editor_state.proofs.Calls.VaultCalls.{names_none as none_named}
use Rattle.memory_project.specs.Lines.{Asked, IsOfScript, MayCome, Went, line_room}
use Rattle.memory_project.specs.Memory.{HasAsked, HasRoom, no_room}
use Rattle.memory_project.proofs.{FreshLemmas.absent, RoomLemmas.Takes, RoomLemmas.asked_by, RoomLemmas.room_left}
use Rattle.pcm_base.specs.declared.command.Command.TheVariants as command
use Rattle.pcm_base.specs.declared.refusal.Refusal.TheVariants as refusal

-- no line of a script names a sound
names_none : (c : Command) → IsOfScript c → name_in_line c ≡ None
names_none c kind =
    none_named c (λ name is. subst IsOfScript is kind) (λ name is. subst IsOfScript is kind)
    (λ name is. subst IsOfScript is kind)

-- and none packs the journal
packs_none : (c : Command) → IsOfScript c → packs (Line c) ≡ 0
packs_none command.Compact kind = absurd kind
packs_none c kind = refl

packed_none : {D : Type 0} (s : Core D) (c : Command) → IsOfScript c → packed_by s (Line c) ≡ 0
packed_none s command.Compact kind = absurd kind
packed_none s c kind = refl

-- ---- an answer as a reply

pub told_ends : {A : Type 0} (f : A → Reply) (answer : Result A Refusal) (short : Result (Unit {0}) Refusal)
    → EndsAlike answer short → EndsAlike (as_reply f answer) short
told_ends f (Ok a) (Ok u) ends = tt
told_ends f (Ok a) (Err why) ends = absurd ends
told_ends f (Err why) (Ok u) ends = absurd ends
told_ends f (Err why) (Err other) ends = ends

pub told_valid : {A : Type 0} (f : A → Reply) (answer : Result A Refusal) → IfErr answer IsUndamaged
    → IfErr (as_reply f answer) IsUndamaged
told_valid f (Ok a) valid = tt
told_valid f (Err why) valid = valid

-- a line that is asked by the call that is its own
pub asked_call : {D A : Type 0} (disk : Ghosts D) (s new : Core D) {line own : Command} (f : A → Reply)
    (answer : Result A Refusal) (short : Result (Unit {0}) Refusal) → line ≡ own
    → Took disk s (quietly (Line own) (as_reply f answer)) new → EndsAlike answer short
    → (IsHeld disk s → IfErr answer IsUndamaged) → Asked disk s line short new
asked_call disk s new f answer short is took ends valid = record {
  told = as_reply f answer;
  took = subst (λ (k : Command). Took disk s (quietly (Line k) (as_reply f answer)) new) (sym is) took;
  ends = told_ends f answer short ends;
  valid = λ held. told_valid f answer (valid held);
}

-- and one whose call only looks
pub asked_look : {D A : Type 0} (disk : Ghosts D) (s new : Core D) {line own : Command} (f : A → Reply)
    (answer : Result A Refusal) (short : Result (Unit {0}) Refusal) → line ≡ own
    → Looks disk s (Line own) (as_reply f answer) new → EndsAlike answer short → Asked disk s line short new
asked_look disk s new f answer short is looks ends = record {
  told = as_reply f answer;
  took = subst (λ (k : Command). Took disk s (quietly (Line k) (as_reply f answer)) new) (sym is) looks.took;
  ends = told_ends f answer short ends;
  valid = looks.valid;
}

-- neither want of memory nor an earlier fault is damage
pub never_damaged : {A : Type 0} (answer : Result A Refusal)
    → IfErr answer (λ e. (e ≡ refusal.NoMemory) ⊎ ((faults : ℕ) × (e ≡ refusal.Stopped faults)))
    → IfErr answer IsUndamaged
never_damaged (Ok a) why = tt
never_damaged (Err e) (inl none) = subst IsUndamaged (sym none) tt
never_damaged (Err e) (inr (faults, stopped)) = subst IsUndamaged (sym stopped) tt

-- ---- why there is no answer

-- A line that no test refuses, that names no sound, purges to no size, meets no damage and no fault of the disk has no
-- answer for want of memory alone.
module _ (t u : Studio) (c : Command) (names : name_in_line c ≡ None)
    (no_purge : (bytes : ℕ) → c ≡ command.PurgeTo bytes → ⊥) (no_fault : DiskFails t (Line c) silent u → ⊥) where
  line_or : Call → Command
  line_or (Line d) = d
  line_or other = c

  breaks : (why : Refusal) → IsUndamaged why → Breaks t (Line c) silent why u → (why ≡ refusal.NoMemory) × (u ≡ t)
  breaks (refusal.Damaged file at want have) valid b = absurd valid
  breaks refusal.DiskFault valid b = absurd (no_fault b)
  breaks refusal.VaultFault valid b = absurd (absent (name_in_line c) names b.0)
  breaks refusal.NoMemory valid b = (refl, b.same)
  breaks why valid b = absurd b

  pub no_answer : (why : Refusal) → IsUndamaged why
      → ((blocks len : ℕ) → Needs (outside t silent) t (Line c) blocks len →
      refusal_of (outside t silent) t (Line c) blocks len ≡ None)
      → Answers t (Line c) silent (Err why) u → (why ≡ refusal.NoMemory) × (u ≡ t)
  unfolding line_or
  no_answer why valid passes answers = ⊎_elim
      (λ (r : Refuses t (Line c) silent why u).
      absurd (none-some why (sym (passes r.blocks r.len r.needs) ∙ r.first)))
      (λ rest. ⊎_elim
      (λ (left : LeavesAll t (Line c) silent why u). absurd (no_purge left.bytes (ap line_or left.line)))
      (λ (b : Breaks t (Line c) silent why u). breaks why valid b)
      rest)
      answers

-- a count that is 0 has not risen
pub rose_not : (old new : ℕ) → old ≡ 0 → new ≡ 0 → Rose old new → ⊥
rose_not old new a b rose = absurd (omega (arith, a, b, rose))

-- where no fault was counted the disk did not fail
pub fails_not : (t u : Studio) (c : Command) → t.read_faults ≡ 0 → t.change_faults ≡ 0 → u.read_faults ≡ 0
    → u.change_faults ≡ 0 → DiskFails t (Line c) silent u → ⊥
fails_not t u c reads changes reads_now changes_now fails = ⊎_elim
    (λ (f : ReadFailed t u). rose_not t.read_faults u.read_faults reads reads_now f.rose)
    (λ (f : IsTrue (may_change (Line c)) × ChangeFailed t u). rose_not t.change_faults u.change_faults changes
    changes_now f.1.rose)
    fails.cause

-- ---- the room of a line

-- one block at most is begun in vain
vain_most : (told : Result Reply Refusal) → begun_in_vain told ≤ 1
vain_most (Ok r) = omega arith
vain_most (Err why) = either (is_broken_off why)
  where
    either : (b : Bool) → (if b then 1 else 0) ≤ 1
    either true = omega arith
    either false = omega arith

-- so much is within the room of a line, where the journal is there
line_takes : (x : Exchange) (journal : Option (List ℕ)) (m blocks len packed : ℕ) (more : Room)
    → files_made journal ≡ 0 → length x.removed ≡ 0 → packs x.call ≡ 0 → packed ≡ 0 → m ≡ 512 → blocks ≤ 11
    → len ≤ 6872 → Takes (asks x journal m blocks len packed) more (together line_room more)
line_takes x journal m blocks len packed more there none unpacked nothing size few short =
    let vain = vain_most x.told in
    let places : places_of x.call len ≤ 6 + len = places-few (commits_of x.call) len in
    subst (λ (k : ℕ). Takes (asks x journal k blocks len packed) more (together line_room more)) (sym size) (
      omega (arith, there, unpacked, vain, few),
      omega (arith, nothing, vain, places, few, short),
      omega (arith, few, none),
    )

-- nothing refuses it, so the studio goes on
goes : (stopped : Option ℕ) (rest : Option Refusal) → ((stop_of stopped) otherwise rest) ≡ None → stopped ≡ None
goes None rest passed = refl
goes (Some faults) rest passed = absurd (none-some (refusal.Stopped faults) (sym passed))

module _ {D : Type 0} (disk : Ghosts D) (old new : Core D) (c : Command) (may : MayCome disk old c) where
  abbrev t : Studio
  t = studio_of disk old

  abbrev u : Studio
  u = studio_of disk new

  module _ {told : Result Reply Refusal} (took : Took disk old (quietly (Line c) told) new) (blocks len : ℕ)
      (needs : Needs (outside t silent) t (Line c) blocks len) (next : new.next_block ≡ old.next_block + blocks) where
    -- what it asks of the disk
    abbrev much : Room
    much = asks (quietly (Line c) told) (disk.reads old.store old.file) old.block_size
        (new.next_block - old.next_block) took.len (packed_by old (Line c))

    much_takes : (more : Room) → Takes much more (together line_room more)
    much_takes more =
        let w = took.needs may.held in
        let going = goes old.stopped _ (may.valid silent w.0 took.len w.1) in
        let few = (may.few.most silent blocks len needs).0 in
        line_takes (quietly (Line c) told) (disk.reads old.store old.file) old.block_size
        (new.next_block - old.next_block) took.len (packed_by old (Line c)) more
        (ap files_made (may.held.durable going).there.read.1) refl (packs_none c may.kind) (packed_none old c may.kind)
        may.size (omega (arith, few, next)) (may.few.most silent w.0 took.len w.1).1

    room_stays : (more : Room) → HasRoom disk old.store (together line_room more) → HasRoom disk new.store more
    room_stays more fits = room_left disk old.store new.store
        (LeavesOthers old.next_block new.next_block (MayRemove (Line c) old.counts)) much (together line_room more) more
        took.changed may.held.tells fits (much_takes more)

    asked_stays : HasAsked disk new.store (together (asked disk old.store) line_room)
    asked_stays =
        let takes = much_takes no_room in
        asked_by disk old.store new.store (LeavesOthers old.next_block new.next_block (MayRemove (Line c) old.counts))
        much line_room took.changed may.held.tells
        (record { files = omega (arith, takes.0); bytes = omega (arith, takes.1); calls = omega (arith, takes.2) })

    faults_none : (disk.read_fault_count new.store ≡ 0) × (disk.change_fault_count new.store ≡ 0)
    faults_none = let left = room_stays no_room may.room in (left.reads, left.changes)

  pub line_went : (r : Reply) → Took disk old (quietly (Line c) (Ok r)) new → Went disk old c new
  line_went r took =
      let step = took.step may.held in
      record {
        studio = took.studio;
        held = took.held may.held;
        reply = r;
        step = step;
        room = room_stays took step.blocks step.len step.needs (next r step);
        asked_more = asked_stays took step.blocks step.len step.needs (next r step);
      }
    where
      next : (r : Reply) (step : CarriesOut t (Line c) silent r u) → new.next_block ≡ old.next_block + step.blocks
      next r step = ap (λ (z : Studio). z.next_block) (carried_is t u (Line c) silent r step)

  pub line_wants : (why : Refusal) → Took disk old (quietly (Line c) (Err why)) new → IsUndamaged why
      → (why ≡ refusal.NoMemory) × (u ≡ t)
  line_wants why took valid = no_answer t u c (names_none c may.kind)
      (λ bytes is. subst IsOfScript is may.kind) no_fault why valid (may.valid silent)
      (took.step may.held)
    where
      no_fault : DiskFails t (Line c) silent u → ⊥
      no_fault fails =
          let off = fails.breaks in
          let none = faults_none took off.blocks off.len off.needs (ap (λ (z : Studio). z.next_block) off.is) in
          fails_not t u c may.room.reads may.room.changes none.0 none.1 fails

  -- by the answer that was given
  pub asked_went : Asked disk old c (Ok (tt {0})) new → Went disk old c new
  asked_went asked = by asked.told asked.took asked.ends
    where
      by : (told : Result Reply Refusal) → Took disk old (quietly (Line c) told) new → EndsAlike told (Ok (tt {0}))
          → Went disk old c new
      by (Ok r) took ends = line_went r took
      by (Err why) took ends = absurd ends

  pub asked_wants : (why : Refusal) → Asked disk old c (Err why) new → (why ≡ refusal.NoMemory) × (u ≡ t)
  asked_wants why asked = by asked.told asked.took asked.ends (asked.valid may.held)
    where
      by : (told : Result Reply Refusal) → Took disk old (quietly (Line c) told) new
          → EndsAlike {B = Unit {0}} told (Err why) → IfErr told IsUndamaged → (why ≡ refusal.NoMemory) × (u ≡ t)
      by (Ok r) took ends valid = absurd ends
      by (Err other) took ends valid =
          let w = line_wants other took valid in (ends ∙ w.0, w.1)
