-- What is left of the room of a disk.
use Rattle.std.proofs.Common.{◌≡◌, ◌⊎◌, ⊎_elim, ℕ, ◌+◌, ◌≤◌, ◌<◌, ◌^◌, ◌-◌, IsTrue, IsSome, Option, Some, None, List}
use Rattle.std.proofs.Common.{length, refl, sym, ap, ◌∙◌, subst, arith}
use Rattle.disk_model.specs.Frames.{Changed, Kept, asked}
use Rattle.disk_model.specs.Room.{IsOver, IsSpent, IsWithin, Room, StaysRoom, files_made, together}
use Rattle.disk_model.specs.{Disk.Files, Disk.bytes_of, declared.store.Store.Ghosts}
use Rattle.project_journal.specs.Answer.{HasFault}
use Rattle.editor_recovery.specs.Standing.{HasNone}
use Rattle.memory_project.specs.Memory.{Fits, HasAsked, HasRoom}

-- no file is there
abbrev pub nothing : Files
nothing = λ _. None

-- so no project is
pub no_project : (files : Files) → ((file : ℕ) → files file ≡ None) → HasNone files
no_project files none = (λ project. absent 0 project.0, λ project. absent 1 project.0)
  where
    absent : (file : ℕ) → 33 ≤ length (bytes_of (files file)) → ⊥
    absent file long = omega (arith, long, ap (λ (x : Option (List ℕ)). length (bytes_of x)) (none file))

module _ {D : Type 0} (disk : Ghosts D) (old new : D) (step : Files → Files → Type 0) (more : Room)
    (changed : Changed disk step more old new) (tells : IsTrue (disk.tells old)) (fits : HasRoom disk old more) where
  not_over : (now before more room : ℕ) → now ≤ before + more → Fits before more room → IsOver room now → ⊥
  not_over now before more room le fits over = ⊎_elim
      (λ (x : room < now). absurd (omega (arith, le, fits.within, x)))
      (λ (x : 2 ^ 64 - 1 ≤ now). absurd (omega (arith, le, fits.small, x)))
      over

  not_spent : IsSpent (disk.room old) (asked disk new) → ⊥
  not_spent spent = ⊎_elim
      (λ (x : IsOver fits.room.files (disk.absent_writes new)).
      not_over (disk.absent_writes new) (disk.absent_writes old) more.files fits.room.files (changed.files tells)
      fits.files x)
      (λ (x : IsOver fits.room.bytes (disk.asked_bytes new) ⊎ IsOver fits.room.calls (disk.change_calls new)). ⊎_elim
      (λ (y : IsOver fits.room.bytes (disk.asked_bytes new)).
      not_over (disk.asked_bytes new) (disk.asked_bytes old) more.bytes fits.room.bytes changed.bytes fits.bytes y)
      (λ (y : IsOver fits.room.calls (disk.change_calls new)).
      not_over (disk.change_calls new) (disk.change_calls old) more.calls fits.room.calls changed.calls fits.calls y)
      x)
      (subst (λ (r : Option Room). IsSpent r (asked disk new)) fits.is spent)

  -- no call failed
  pub changes_none : disk.change_fault_count new ≡ 0
  changes_none = ⊎_elim
      (λ (x : disk.change_fault_count new ≡ disk.change_fault_count old). x ∙ fits.changes)
      (λ (x : IsSpent (disk.room old) (asked disk new)). absurd (not_spent x))
      changed.spent

  pub reads_none : disk.read_fault_count new ≡ 0
  reads_none = changed.unfailing (subst (λ (r : Option Room). IsSome r) (sym fits.is) refl) ∙ fits.reads

  pub no_fault : HasFault disk old new → ⊥
  no_fault fault = ⊎_elim
      (λ x. let a = reads_none in let b = fits.reads in absurd (omega (arith, a, b, x)))
      (λ x. let a = changes_none in let b = fits.changes in absurd (omega (arith, a, b, x)))
      fault.rose

-- ---- what is left of the room

less : (now more most room : ℕ) → more ≤ most → Fits now most room → Fits now more room
less now more most room le fits =
    record { within = omega (arith, le, fits.within); small = omega (arith, le, fits.small) }

-- where so much is left, so is less
pub room_less : {D : Type 0} (disk : Ghosts D) (store : D) (few many : Room) → IsWithin few many
    → HasRoom disk store many → HasRoom disk store few
room_less disk store few many le fits = record {
  room = fits.room;
  is = fits.is;
  files = less (disk.absent_writes store) few.files many.files fits.room.files le.files fits.files;
  bytes = less (disk.asked_bytes store) few.bytes many.bytes fits.room.bytes le.bytes fits.bytes;
  calls = less (disk.change_calls store) few.calls many.calls fits.room.calls le.calls fits.calls;
  reads = fits.reads;
  changes = fits.changes;
}

rest : (old now much first later room room_now : ℕ) → now ≤ old + much → much + later ≤ first → room ≤ room_now
    → Fits old first room → Fits now later room_now
rest old now much first later room room_now le sum more fits =
    record { within = omega (arith, le, sum, more, fits.within); small = omega (arith, le, sum, fits.small) }

-- so much more fits
abbrev pub Takes : Room → Room → Room → Type 0
Takes much later first =
    (much.files + later.files ≤ first.files) × (much.bytes + later.bytes ≤ first.bytes) ×
    (much.calls + later.calls ≤ first.calls)

module _ {D : Type 0} (disk : Ghosts D) (old new : D) (step : Files → Files → Type 0) (much first later : Room)
    (changed : Changed disk step much old new) (tells : IsTrue (disk.tells old)) (fits : HasRoom disk old first)
    (takes : Takes much later first) where
  within : HasRoom disk old much
  within = room_less disk old much first
      (record { files = omega (arith, takes.0); bytes = omega (arith, takes.1); calls = omega (arith, takes.2) }) fits

  left_by : (now : Option Room) → disk.room new ≡ now → StaysRoom (Some fits.room) now → HasRoom disk new later
  left_by None is h = absurd h
  left_by (Some room) is h = record {
    room = room;
    is = is;
    files = rest (disk.absent_writes old) (disk.absent_writes new) much.files first.files later.files fits.room.files
        room.files (changed.files tells) takes.0 h.files fits.files;
    bytes = rest (disk.asked_bytes old) (disk.asked_bytes new) much.bytes first.bytes later.bytes fits.room.bytes
        room.bytes changed.bytes takes.1 h.bytes fits.bytes;
    calls = rest (disk.change_calls old) (disk.change_calls new) much.calls first.calls later.calls fits.room.calls
        room.calls changed.calls takes.2 h.calls fits.calls;
    reads = reads_none disk old new step much changed tells within;
    changes = changes_none disk old new step much changed tells within;
  }

  pub room_left : HasRoom disk new later
  room_left = left_by (disk.room new) refl
      (subst (λ (r : Option Room). StaysRoom r (disk.room new)) fits.is changed.room)

  pub no_fault_within : HasFault disk old new → ⊥
  no_fault_within = no_fault disk old new step much changed tells within

pub files_few : {A : Type 0} (x : Option A) → files_made x ≤ 1
files_few None = omega arith
files_few (Some x) = omega arith

-- ---- what was asked in all

pub asked_by : {D : Type 0} (disk : Ghosts D) (old new : D) (step : Files → Files → Type 0) (much most : Room)
    → Changed disk step much old new → IsTrue (disk.tells old) → IsWithin much most
    → HasAsked disk new (together (asked disk old) most)
asked_by disk old new step much most changed tells le =
    record {
      files = omega (arith, changed.files tells, le.files);
      bytes = omega (arith, changed.bytes, le.bytes);
      calls = omega (arith, changed.calls, le.calls);
    }

pub asked_kept : {D : Type 0} (disk : Ghosts D) (old new : D) → Kept disk old new → HasAsked disk new (asked disk old)
asked_kept disk old new kept =
    record {
      files = omega (arith, kept.same_absent);
      bytes = omega (arith, kept.same_bytes);
      calls = omega (arith, kept.same_calls);
    }

-- reads alone leave it
pub room_kept : {D : Type 0} (disk : Ghosts D) (old new : D) (more : Room) → Kept disk old new → HasRoom disk old more
    → HasRoom disk new more
room_kept disk old new more kept fits = let some : IsSome (disk.room old) = subst (λ (r : Option Room). IsSome r)
    (sym fits.is) refl in record {
      room = fits.room;
      is = kept.same_room ∙ fits.is;
      files = subst (λ (n : ℕ). Fits n more.files fits.room.files) (sym kept.same_absent) fits.files;
      bytes = subst (λ (n : ℕ). Fits n more.bytes fits.room.bytes) (sym kept.same_bytes) fits.bytes;
      calls = subst (λ (n : ℕ). Fits n more.calls fits.room.calls) (sym kept.same_calls) fits.calls;
      reads = kept.unfailing some ∙ fits.reads;
      changes = kept.same_faults ∙ fits.changes;
    }
