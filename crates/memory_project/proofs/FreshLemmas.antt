-- A disk without files, and a project that was made on it.
use Rattle.std.proofs.Common.{◌≡◌, ◌≢◌, ⊎_elim, ℕ, zero, suc, IsTrue, IsSome, Option, Some, None, Err, refl, sym, ◌∙◌}
use Rattle.std.proofs.Common.{subst, arith}
use Rattle.std.proofs.lemmas.Bool.{true≢false}
use Rattle.disk_model.specs.{Disk.SameElsewhere, Frames.Changed, Room.IsWithin, declared.store.Store.Ghosts}
use Rattle.project_journal.specs.{Gate.EachNow, Header.form_3, Journal.IsAt, Journal.fresh, Rooms.create_room}
use Rattle.record_body.specs.Saved.{Keeps}
use Rattle.editor_recovery.specs.{declared.fault.OpenFault.OpenFault, Causes.Causes, Creating.Creates, Honest.IsHonest}
use Rattle.editor_recovery.specs.{Standing.HasNone}
use Rattle.memory_project.specs.declared.fresh.FreshProject.{FreshProject}
use Rattle.memory_project.specs.Fresh.{CanBeMade, IsEmpty, IsMade, found_of, left_behind, made_room, room_of_project}
use Rattle.memory_project.proofs.RoomLemmas.{Takes, asked_by, files_few, no_fault_within, no_project, room_left}
use Rattle.editor_recovery.specs.declared.fault.OpenFault.TheVariants as fault

pub absent : {A : Type 0} (x : Option A) → x ≡ None → IsSome x → ⊥
absent None e some = true≢false (sym some)
absent (Some a) e some = cc

module _ {D : Type 0} (disk : Ghosts D) (p : FreshProject) (can : CanBeMade p) (store new : D)
    (empty : IsEmpty disk p store)
    (changed : Changed disk (SameElsewhere 0) (create_room (disk.reads store 0)) store new) where
  takes : Takes (create_room (disk.reads store 0)) (left_behind 8 p) (room_of_project p)
  takes =
      let few = files_few (disk.reads store 0) in
      (omega (arith, few, can.files_least), omega (arith, can.bytes_least), omega (arith, can.calls_least))

  none_there : HasNone (disk.reads store)
  none_there = no_project (disk.reads store) empty.none

  -- making it fails for want of memory alone
  pub making_wants : (why : OpenFault) → Creates {T = Unit {0}} (disk.reads store) (Err why)
      → Causes {T = Unit {0}} disk store new (Err why) → why ≡ fault.NoMemory
  making_wants fault.Exists creates cause = absurd (⊎_elim none_there.0 none_there.1 creates)
  making_wants (fault.Foreign file) creates cause =
      absurd (absent (disk.reads store file) (empty.none file) creates.1.there)
  making_wants fault.DiskFault creates cause =
      absurd (no_fault_within disk store new (SameElsewhere 0) (create_room (disk.reads store 0)) (room_of_project p)
      (left_behind 8 p) changed empty.tells empty.room takes cause)
  making_wants fault.NoMemory creates cause = refl
  making_wants _ creates cause = absurd creates

  only_journal : (file : ℕ) → IsSome (disk.reads new file) → file ≡ 0
  only_journal zero some = refl
  only_journal (suc n) some =
      let other : suc n ≢ 0 = λ e. absurd (omega (arith, e)) in
      absurd (absent (disk.reads new (suc n)) (changed.reads empty.tells (suc n) other ∙ empty.none (suc n)) some)

  pub is_made : IsHonest disk new → Keeps (disk.reads new) (found_of p) → EachNow disk new (λ c. Keeps c (found_of p))
      → IsAt (form_3 0) disk new 80 (fresh p.rate p.block_size p.depth) → IsMade disk p new
  is_made honest keeps each at = record {
    tells = subst IsTrue (sym changed.tells) empty.tells;
    honest = honest;
    there = record { front = at.front; spelled = at.spelled; shut = at.read; newest = at.newest };
    keeps = keeps;
    each = each;
    only = only_journal;
    asked_few =
        let few = files_few (disk.reads store 0) in
        let most : IsWithin (create_room (disk.reads store 0)) (made_room 8) =
        record { files = omega (arith, few); bytes = omega arith; calls = omega arith } in
        let more = asked_by disk store new (SameElsewhere 0) (create_room (disk.reads store 0)) (made_room 8) changed
        empty.tells most in
        let none = empty.asked_none in
        record {
          files = omega (arith, more.files, none.files);
          bytes = omega (arith, more.bytes, none.bytes);
          calls = omega (arith, more.calls, none.calls);
        };
    room = room_left disk store new (SameElsewhere 0) (create_room (disk.reads store 0)) (room_of_project p)
        (left_behind 8 p) changed empty.tells empty.room takes;
  }
