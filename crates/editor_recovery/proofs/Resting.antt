-- A journal that is at rest stays so while nothing is written.
use Rattle.editor_recovery.proofs.Common.{◌≡◌, ◌≤◌, ℕ, [], Result, Ok, Err, refl, sym, subst, arith}
use Rattle.editor_recovery.proofs.Common.{IfOk, OnOk, IsTrue, StaysStep, Changed, Kept, Ghosts, changed_kept}
use Rattle.editor_recovery.proofs.Common.{Log, HasLog, IsAt, log_of, IsNewest, IsDurable, Form, IsForm, IsOpened}
use Rattle.editor_recovery.proofs.Common.{reader_form, Reader, whole_log, stored_here, zero_or_one, Disk, Folded}
use Rattle.editor_recovery.proofs.Common.{OpenFault, FoldsDisk, Parts, inl, inr}
use Rattle.disk_model.specs.{Room.Room}
use Rattle.disk_model.proofs.Frames.{changed_then_stays}
use Rattle.project_journal.specs.{Choice.other_file, Reader.IsHeading}
use Rattle.project_journal.proofs.Found.{found_form, stored_rest}
use Rattle.project_journal.proofs.{FirstReadings.heading_kept, Kept.is_at_still}
use Rattle.editor_state.proofs.Calls.LookCalls.{same_journals}

one_durable : {D : Type 0} (disk : Ghosts D) (store : D) (file : ℕ) → file ≤ 1 → IsDurable disk store 0
    → IsDurable disk store 1 → IsDurable disk store file
one_durable disk store file few first second =
    elim (zero_or_one file few) [ inl zero ↦ rw zero first | inr one ↦ rw one second ]

module _ {D : Type 0} {disk : Ghosts D} where
  still_at : (form : Form) (mid new : D) (at : ℕ) (log : Log) → Kept disk mid new → IsAt form disk mid at log
      → IsAt form disk new at log
  still_at form mid new at log kept here =
      is_at_still {form = form} (same_journals form.file)
      (same_journals form.file (disk.reads mid) (disk.reads new) kept.same_reads) kept.same_images here

  -- a file that is on the disk stays so
  pub still_durable : (mid new : D) (file : ℕ) → Kept disk mid new → IsDurable disk mid file → IsDurable disk new file
  still_durable mid new file kept here = λ c now.
      let d = kept.same_images.from c (subst (λ t. disk.may_leave new t c) kept.same_clock now) in
      rw (d.2, kept.same_reads) (here d.0 d.1)

  pub durable_after : {T : Type 0} (mid new : D) (file : ℕ) (r : Result T OpenFault) → Kept disk mid new
      → IsDurable disk mid file → OnOk r (IsDurable disk new file)
  durable_after mid new file (Ok x) kept here = still_durable mid new file kept here
  durable_after mid new file (Err e) kept here = tt

  -- and reads ask for no more room
  pub changed_after : {much : Room} {old mid new : D} → Changed disk StaysStep much old mid → Kept disk mid new
      → Changed disk StaysStep much old new
  changed_after changed kept =
      changed_then_stays {two = record { files = 0; bytes = 0; calls = 0 }}
      (record { files = omega arith; bytes = omega arith; calls = omega arith }) changed
      (changed_kept (λ d. refl) kept)

  -- and so does a reader of the journal
  pub still_heading : (mid new : D) (reader : Reader) (r : Result Disk OpenFault) → IsHeading disk mid reader []
      → IfOk r (λ d. d.reader ≡ reader) → Kept disk mid new
      → IfOk r (λ d. IsHeading disk new d.reader [])
  still_heading mid new reader (Err e) here is kept = tt
  still_heading mid new reader (Ok d) here is kept =
      rw is (heading_kept reader [] kept here)

  -- the journal that was folded, after what was found beside it
  pub rest_after : (old mid new : D) (reader : Reader) (f : Folded) (r : Result Parts OpenFault)
      → disk.reads mid ≡ disk.reads old → IsTrue (disk.tells mid) → IsDurable disk mid 0 → IsDurable disk mid 1
      → IsOpened (disk.reads old) reader → FoldsDisk disk mid (reader_form reader) (Ok f)
      → IfOk r (λ p. p.journal_end ≡ f.end) → Kept disk mid new
      → IfOk r (λ p. (form : Form) (log : Log) → IsForm form → form.file ≤ 1 → HasLog form log (disk.reads old)
      → IsAt form disk new p.journal_end log)
  rest_after old mid new reader f (Err e) same tells first second opened fold end kept = tt
  rest_after old mid new reader f (Ok p) same tells first second opened fold end kept = λ form log known few has.
      let is : reader_form reader ≡ form = found_form form log (disk.reads old) reader known few has opened in
      let there : HasLog form log (disk.reads mid) = rw same has in
      let told = rw is at fold in
      let j = told.0 in
      let stored = told.1 in
      let says : log_of j ≡ log =
      (whole_log form log (disk.reads mid) j known there (stored_here disk mid form j stored tells).1).says in
      let newest : IsNewest form.file (log_of j).base.generation (disk.reads mid) =
      subst (λ (l : Log). IsNewest form.file l.base.generation (disk.reads mid)) (sym says) there.newest in
      still_at form mid new p.journal_end log kept (rw (end, told.2.end, ← says)
      (stored_rest disk mid form j stored tells (one_durable disk mid form.file few first second)
      (one_durable disk mid (other_file form.file) (omega (arith, few)) first second) told.2.early newest))
