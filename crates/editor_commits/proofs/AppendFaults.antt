-- Nothing was asked of the disk, or a record's append failed.
use Rattle.editor_commits.proofs.Common.{rules, ◌≡◌, inl, inr, ⊎_elim, refl, sym, ap, ◌∙◌, subst, ℕ, ◌+◌, ◌≤◌, IsTrue}
use Rattle.editor_commits.proofs.Common.{List, Ok, Err, Result, OnOk, IsErrOf, arith, LONGEST_BODY, Refusal, Ghosts}
use Rattle.editor_commits.proofs.Common.{Fewer, Appends, IsAt, rows_length, with_bodies, EachSince, JournalFault, Adds}
use Rattle.editor_commits.proofs.Common.{ExceedsBy, Fields, Settles, Core, form_at}
use Rattle.std.proofs.Common.{IfOk, OnErr}
use Rattle.pcm_base.specs.{Causes.Rose}
use Rattle.disk_model.specs.{Disk.SameElsewhere, Frames.Changed}
use Rattle.disk_model.proofs.Frames.{changed_none}
use Rattle.project_journal.specs.Answer.{Causes, HasFault}
use Rattle.project_journal.specs.Journal.{Log, HasOneOf}
use Rattle.project_journal.specs.{Rooms.append_room}
use Rattle.project_journal.proofs.Kept.{each_has}
use Rattle.editor_state.specs.Adding.{HasFailed}
use Rattle.pcm_base.specs.declared.refusal.Refusal.TheVariants as refusal
use Rattle.project_journal.specs.declared.fault.JournalFault.TheVariants as journal

pub adds_nothing : {D R : Type 0} (disk : Ghosts D) (s : Core D) (bodies : List (List ℕ)) (count whole : ℕ) (why : Refusal)
    → Fewer disk s.store → Fields {R = R} disk s whole count (rows_length bodies) (Err why) s
    → Adds {R = R} disk s bodies count whole (Err why) s
adds_nothing disk s bodies count whole why fewer fields = search (rules, inl, each_has, changed_none)

-- what refuses a record before the disk is asked
pub exceeds : {D : Type 0} (R : Type 0) (disk : Ghosts D) (s : Core D) (whole count len : ℕ) (why : Refusal)
    → ExceedsBy s.journal_end whole len why
    → Fields {R = R} disk s whole count len (Err why) s
exceeds R disk s whole count len (refusal.SpaceSpent have need) h = (refl, h)
exceeds R disk s whole count len (refusal.RecordLimit n) h = (refl, h)
exceeds R disk s whole count len why h = absurd (⊎_elim (λ (x : ⊥). x) (λ (x : ⊥). x) h)

-- it was a change that failed
has_failed : {D : Type 0} (disk : Ghosts D) (old new : D) → HasFault disk old new
    → Rose (disk.change_fault_count old) (disk.change_fault_count new) → HasFailed disk old new
has_failed disk old new has rose = record { rose = rose; later = has.later_changes }

abbrev is_memory : Result ℕ JournalFault → Type 0
is_memory (Err journal.NoMemory) = Unit {0}
is_memory other = ⊥

abbrev is_space : Result ℕ JournalFault → Type 0
is_space (Err (journal.SpaceSpent have need)) = Unit {0}
is_space other = ⊥

-- what an append leaves, once the studio has its answer
module _ {D : Type 0} (disk : Ghosts D) (old : Core D) (store : D) (bodies : List (List ℕ)) (count whole : ℕ)
    (any_moment : (log : Log) → IsTrue (disk.tells old.store) → IsAt (form_at old) disk old.store old.journal_end log
    → EachSince disk old.store store (HasOneOf (form_at old) log (with_bodies log bodies)))
    (changed : Changed disk (SameElsewhere old.file) (append_room (disk.reads old.store old.file) (rows_length bodies))
    old.store store)
    (read_faults : disk.read_fault_count store ≡ disk.read_fault_count old.store)
    (short : rows_length bodies ≤ LONGEST_BODY) where
  frame : (result : Result (Unit {0}) Refusal) (new : Core D) → new.store ≡ store
      → Fields disk old whole count (rows_length bodies) result new
      → ((log : Log) → IsTrue (disk.tells old.store) → IsAt (form_at old) disk old.store old.journal_end log
      → OnOk result (IsAt (form_at old) disk new.store new.journal_end (with_bodies log bodies)))
      → Adds disk old bodies count whole result new
  frame result new same fields done = record {
    fields = fields;
    any_moment =
        λ log told here. subst (λ (z : D). EachSince disk old.store z (HasOneOf (form_at old) log (with_bodies log bodies)))
        (sym same) (any_moment log told here);
    done = done;
    changed = subst (λ (z : D). Changed disk (SameElsewhere old.file)
        (append_room (disk.reads old.store old.file) (rows_length bodies)) old.store z) (sym same) changed;
    read_faults = ap disk.read_fault_count same ∙ read_faults;
  }

  -- the same of a result and a studio that are these
  told_as : (result want : Result (Unit {0}) Refusal) (new is : Core D) → result ≡ want → new ≡ is
      → Adds disk old bodies count whole want is → Adds disk old bodies count whole result new
  told_as result want new is p q adds = search rules

  pub settled : (added : Result ℕ JournalFault) (result : Result (Unit {0}) Refusal) (new : Core D)
      → Appends old.journal_end (rows_length bodies) added → Causes disk old.store store added
      → (IsErrOf added journal.DiskFault → Rose (disk.change_fault_count old.store) (disk.change_fault_count store))
      → ((log : Log) → IsTrue (disk.tells old.store) → IsAt (form_at old) disk old.store old.journal_end log
      → IfOk added (λ next. IsAt (form_at old) disk store next (with_bodies log bodies)))
      → OnErr added ((IsErrOf added journal.DiskFault → ⊥) → store ≡ old.store)
      → Settles disk (record old { store = store }) count added result new
      → Adds disk old bodies count whole result new
  settled (Ok next) result new answer cause rose done untouched by =
      let after : Core D = record old { store = store; journal_end = next; commit_number = old.commit_number + count } in
      let fields : Fields {R = Unit {0}} disk old whole count (rows_length bodies) (Ok (tt {0})) after = (
        (λ i. record old { store = store; journal_end = answer.0 i; commit_number = old.commit_number + count }),
        omega (arith, answer),
        cause.same_change_faults,
        short,
      ) in
      told_as result (Ok (tt {0})) new after by.0 by.1 (frame (Ok (tt {0})) after refl fields done)
  settled (Err journal.DiskFault) result new answer cause rose done untouched by =
      search (rules, has_failed, told_as, frame)
  settled (Err journal.NoMemory) result new answer cause rose done untouched by =
      let same : store ≡ old.store = untouched (λ e. subst is_memory e tt) in
      let after : Core D = record old { store = store } in
      told_as result (Err refusal.NoMemory) new after by.0 by.1
      (frame (Err refusal.NoMemory) after refl (λ i. record old { store = same i }) (λ log told here. tt))
  settled (Err (journal.SpaceSpent have need)) result new answer cause rose done untouched by =
      let same : store ≡ old.store = untouched (λ e. subst is_space e tt) in
      let after : Core D = record old { store = store } in
      let fields : Fields {R = Unit {0}} disk old whole count (rows_length bodies) (Err (refusal.SpaceSpent have need)) after =
      ((λ i. record old { store = same i }), inr (answer.0, answer.1, answer.2)) in
      told_as result (Err (refusal.SpaceSpent have need)) new after by.0 by.1
      (frame (Err (refusal.SpaceSpent have need)) after refl fields (λ log told here. tt))
  settled (Err journal.Absent) result new answer cause rose done untouched by = absurd answer
  settled (Err journal.Exists) result new answer cause rose done untouched by = absurd answer
  settled (Err (journal.Damaged file at want have)) result new answer cause rose done untouched by = absurd answer
