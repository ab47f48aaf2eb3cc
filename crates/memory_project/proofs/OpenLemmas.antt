-- A fresh project, opened: its studio is that of the model's fresh project.
use Rattle.std.proofs.Common.{◌≡◌, inr, ⊎_elim, ℕ, zero, suc, ◌+◌, ◌≤◌, IsTrue, IsSome, Err, Ok, List, [], ◌∷◌, ◌++◌}
use Rattle.std.proofs.Common.{length, map, refl, sym, ap, ◌∙◌, subst, arith}
use Rattle.std.proofs.lemmas.List.{append-nil}
use Rattle.std.specs.{Prelude.if◌then◌else◌, Prelude.nat_lt, List.flat_map}
use Rattle.disk_model.specs.{Disk.Files, Disk.StaysStep, Frames.Changed, Room.IsWithin, Room.Room}
use Rattle.disk_model.specs.{declared.store.Store.Ghosts}
use Rattle.project_journal.specs.Journal.{Entry, HasLog, IsAt, IsLog, Log, body_of, entry, fresh}
use Rattle.project_journal.specs.{Gate.EachNow, Header.Form, Header.IsForm, Header.form_3}
use Rattle.project_journal.proofs.Chosen.{IsOne, one_journal}
use Rattle.project_journal.proofs.{Bases.length-head, Kept.is_project, Parses.form_known}
use Rattle.record_body.specs.Saved.{Keeps, Saved, new_project}
use Rattle.record_body.proofs.SavedOnce.{keeps_once}
use Rattle.editor_state.specs.Core.{Core, form_at}
use Rattle.editor_state.specs.Studios.{IsDurable, IsHeld, IsStudio, clip_cells, pin_at, shown, studio_of}
use Rattle.sample_block.specs.Sources.{sources_of}
use Rattle.editor_recovery.specs.Found.{Found, IsNew, found_by}
use Rattle.editor_recovery.specs.{declared.fault.OpenFault.OpenFault, Causes.Causes, Files.IsNextBlock, Honest.IsHonest}
use Rattle.editor_recovery.specs.{Honest.OpensHonest, Opening.Finds, Opening.Opens}
use Rattle.editor_recovery.proofs.{Created.new_stands, Honest.same_saved, Honest.stands_once}
use Rattle.memory_project.specs.Fresh.{CanBeMade, IsFresh, IsMade, found_of, left_behind, made_room}
use Rattle.memory_project.specs.{declared.fresh.FreshProject.FreshProject, Memory.HasAsked, Memory.HasRoom}
use Rattle.memory_project.proofs.RoomLemmas.{Takes, asked_by, no_fault_within, room_left}
use Rattle.pcm_base.specs.Studio as model
use Rattle.editor_recovery.specs.declared.fault.OpenFault.TheVariants as fault

abbrev two_calls : Room
two_calls = record { files = 0; bytes = 0; calls = 2 }

none_of_none : {A B : Type 0} (f : A → B) (xs : List A) → map f xs ≡ [] → xs ≡ []
none_of_none f [] e = refl
none_of_none f (x ∷ xs) e = cc

-- the journal of a new project is its header alone
header_alone : (front : List ℕ) (rate m depth : ℕ) → IsLog (form_3 0) front (fresh rate m depth) → length front ≡ 80
header_alone front rate m depth is =
    let entries : is.entries ≡ [] = none_of_none body_of is.entries is.bodies in
    ap length is.parts ∙ ap (λ (es : List Entry). length (is.head ++ flat_map entry es)) entries
    ∙ ap length (append-nil is.head) ∙ length-head (form_3 0) is.head (fresh rate m depth) is.header

-- where no file is there but the journal, the next block is the first
first_block : (files : Files) (next : ℕ) → ((file : ℕ) → IsSome (files file) → file ≡ 0) → IsNextBlock files 16 next
    → next ≡ 16
first_block files next only is = ⊎_elim
    (λ (same : next ≡ 16). same)
    (λ (w : (file : ℕ) × IsSome (files file) × (next ≡ file + 1)).
    absurd (omega (arith, only w.0 w.1, is.no_lower, w.2)))
    is.least

-- version 3 is the last one
version_three : (version : ℕ) → ◌≡◌ {A = ℕ} (if nat_lt version 2 then 1 else if nat_lt version 3 then 2 else 3) 3
    → version ≤ 3 → version ≡ 3
version_three zero is few = absurd (omega (arith, is))
version_three (suc zero) is few = absurd (omega (arith, is))
version_three (suc (suc zero)) is few = absurd (omega (arith, is))
version_three (suc (suc (suc version))) is few = omega (arith, few)

-- ---- what opening it gives

-- the clauses of an opening that gave a studio
pub record Opened_to {D : Type 0} (disk : Ghosts D) (store : D) (start : Core D) : Type 0 where
  pub opens : IsTrue (disk.tells store) → Opens (disk.reads store) (Ok (found_by start))
  pub studio : IsStudio disk start
  pub new : IsNew start
  pub at_rest : IsTrue (disk.tells store) → (form : Form) (log : Log) → IsForm form → form.file ≤ 1
      → HasLog form log (disk.reads store) → IsAt form disk start.store start.journal_end log
  pub held : IsHonest disk store → IsHeld disk start
  pub keeps : IsHonest disk store → EachNow disk start.store (λ c. Keeps c (shown (studio_of disk start)))
  pub stays_honest : IsHonest disk store → IsHonest disk start.store
  pub reads : disk.reads start.store ≡ disk.reads store
  pub changed : Changed disk StaysStep two_calls store start.store

module _ {D : Type 0} (disk : Ghosts D) (p : FreshProject) (can : CanBeMade p) (store : D)
    (made : IsMade disk p store) where
  takes : Takes two_calls (left_behind 10 p) (left_behind 8 p)
  takes = let calls = can.calls_least in (omega arith, omega arith, omega (arith, calls))

  module _ (start : Core D) (to : Opened_to disk store start)
      (stays : disk.may_leave start.store (disk.clock start.store) (disk.reads start.store)) where
    finds : Finds (disk.reads store) (found_by start)
    finds = to.opens made.tells

    shows : shown (studio_of disk start) ≡ found_of p
    shows =
        let keeps : Keeps (disk.reads start.store) (shown (studio_of disk start)) =
        to.keeps made.honest (disk.reads start.store) stays in
        let new : Keeps (disk.reads start.store) (found_of p) =
        subst (λ (f : Files). Keeps f (found_of p)) (sym to.reads) made.keeps in
        keeps_once (disk.reads start.store) (shown (studio_of disk start)) (found_of p) keeps new

    -- nothing was recorded yet
    kept_is : finds.kept ≡ new_project p.depth
    kept_is = same_saved (disk.reads store) finds.form (form_3 0) finds.log (fresh p.rate p.block_size p.depth)
        finds.kept (new_project p.depth) finds.project.stands
        (new_stands p.rate p.block_size p.depth (disk.reads store) made.there)

    next_is : start.next_block ≡ 16
    next_is =
        first_block (disk.reads store) start.next_block made.only
        (subst (λ (n : ℕ). IsNextBlock (disk.reads store) n start.next_block) (ap (λ (k : Saved). k.next_block) kept_is)
        finds.found.next_block)

    end_is : start.journal_end ≡ 80
    end_is =
        let at = to.at_rest made.tells (form_3 0) (fresh p.rate p.block_size p.depth) (inr (inr refl)) (omega arith)
        made.there in
        sym at.place ∙ header_alone at.front p.rate p.block_size p.depth at.spelled

    -- the journal has no place for a track, so no number of a layout was drawn
    layout_is : start.next_layout ≡ 1
    layout_is =
        let one = stands_once (disk.reads store) finds.form (form_3 0) finds.log
        (fresh p.rate p.block_size p.depth) finds.kept (new_project p.depth) finds.project.stands
        (new_stands p.rate p.block_size p.depth (disk.reads store) made.there) in
        let count : finds.log.base.count ≡ 1 = ap (λ (l : Log). l.base.count) one.log in
        let header : finds.form.header_size ≡ 64 = ap (λ (f : Form). f.header_size) one.form in
        omega (arith, finds.found.layouts_least, finds.found.layouts_few, end_is, count, header)

    -- the journal is that of version 3 in file 0, of no generation
    durable : IsDurable disk start
    durable = (to.held made.honest).durable to.new.stopped

    stands : IsOne (form_at start) (form_3 0) durable.log (fresh p.rate p.block_size p.depth)
    stands =
        let at = durable.there in
        one_journal (form_at start) (form_3 0) durable.log (fresh p.rate p.block_size p.depth) (disk.reads start.store)
        (form_known start.version start.file) (inr (inr refl)) to.studio.journal.among (omega arith)
        (record { front = at.front; spelled = at.spelled; shut = at.read; newest = at.newest })
        (subst (HasLog (form_3 0) (fresh p.rate p.block_size p.depth)) (sym to.reads) made.there)

    version_is : start.version ≡ 3
    version_is = version_three start.version (ap (λ (f : Form). f.version) stands.form) to.studio.journal.version_most

    generation_is : start.generation ≡ 0
    generation_is = sym durable.generation ∙ ap (λ (l : Log). l.base.generation) stands.log

    room_is : HasRoom disk start.store (left_behind 10 p)
    room_is = room_left disk store start.store StaysStep two_calls (left_behind 8 p) (left_behind 10 p) to.changed
        made.tells made.room takes

    asked_is : HasAsked disk start.store (made_room 10)
    asked_is =
        let same : IsWithin two_calls two_calls =
        record { files = omega arith; bytes = omega arith; calls = omega arith } in
        let more = asked_by disk store start.store StaysStep two_calls two_calls to.changed made.tells same in
        let few = made.asked_few in
        record {
          files = omega (arith, more.files, few.files);
          bytes = omega (arith, more.bytes, few.bytes);
          calls = omega (arith, more.calls, few.calls);
        }

    fresh_studio_is : studio_of disk start ≡ model.fresh p.rate p.block_size p.depth
    fresh_studio_is = λ i. record {
      state = record {
        history = (shows i).history;
        clipboard = clip_cells (sources_of (disk.reads start.store)) (to.new.clipboard i);
        pins = pin_at (sources_of (disk.reads start.store)) (to.new.pins i);
        next_track = (shows i).next_track;
        next_pin = to.new.next_pin i;
        commit = (shows i).commit;
      };
      stopped = to.new.stopped i;
      rate = (shows i).rate;
      block_size = (shows i).block_size;
      next_block = next_is i;
      file = ap (λ (f : Form). f.file) stands.form i;
      version = version_is i;
      generation = generation_is i;
      journal_end = end_is i;
      next_layout = layout_is i;
      read_faults = room_is.reads i;
      change_faults = room_is.changes i;
    }

    pub is_fresh : IsFresh disk p start
    is_fresh = record {
      studio = to.studio;
      held = to.held made.honest;
      honest = to.stays_honest made.honest;
      is = fresh_studio_is;
      room = room_is;
      asked_few = asked_is;
    }

  -- it is refused for want of memory alone
  pub opening_wants : (new : D) (why : OpenFault) → (IsHonest disk store → OpensHonest disk store new (Err why))
      → Causes {T = Found} disk store new (Err why) → Changed disk StaysStep two_calls store new → why ≡ fault.NoMemory
  opening_wants new fault.Absent honest cause changed = absurd ((honest made.honest).0
      (is_project (form_3 0) (fresh p.rate p.block_size p.depth) (disk.reads store) (omega arith) made.there))
  opening_wants new fault.DiskFault honest cause changed =
      absurd (no_fault_within disk store new StaysStep two_calls (left_behind 8 p) (left_behind 10 p) changed made.tells
      made.room takes cause)
  opening_wants new fault.NoMemory honest cause changed = refl
  opening_wants new _ honest cause changed = absurd (honest made.honest)
