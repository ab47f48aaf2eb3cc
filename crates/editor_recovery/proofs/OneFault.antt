-- The first fault of a disk is one.
use Rattle.editor_recovery.proofs.Common.{◌≡◌, ℕ, List, inl, inr, Option, Some, None, sym, ap, ◌∙◌, arith}
use Rattle.editor_recovery.proofs.Common.{BlockRef, Files, bytes_of, Form, form_of, Damaged, field}
use Rattle.editor_recovery.proofs.Common.{picked_once, read_form, some_is}
use Rattle.editor_recovery.proofs.Common.{HeaderFault, RecordFault, SizeFault, IsUpTo}
use Rattle.project_journal.specs.Header.{first_failed}
use Rattle.project_journal.specs.{Choice.FailsIn}
use Rattle.project_journal.proofs.Picked.{no_choice_fault}
use Rattle.project_journal.proofs.ReadOnce.{read_once, read_valid}
use Rattle.editor_recovery.specs.{Laws.HasOneFault}
use Rattle.editor_recovery.proofs.Honest.{no_header_fault, no_record_fault, same_saved}

same_block : (a b : BlockRef) → IsUpTo a b → IsUpTo b a → a ≡ b
same_block a b (inl p) (inl q) = absurd (omega (arith, p, q))
same_block a b (inl p) (inr q) = absurd (omega (arith, p, q.0))
same_block a b (inr p) (inl q) = absurd (omega (arith, p.0, q))
same_block a b (inr p) (inr q) =
    let len : a.len ≡ b.len = omega (arith, p.1, q.1) in
    λ i. record { id = p.0 i; len = len i }

-- the first test of the choice that fails is in one file
one_choice : (first second : List ℕ) (f g : ℕ) (d e : Damaged) → FailsIn first second f d → FailsIn first second g e
    → (f ≡ g) × (d ≡ e)
one_choice first second f g d e (inl p) (inl q) = (p.0 ∙ sym q.0, some_is d e (sym p.1 ∙ q.1))
one_choice first second f g d e (inl p) (inr q) = let no : None ≡ Some d = sym q.1 ∙ p.1 in absurd cc
one_choice first second f g d e (inr p) (inl q) = let no : None ≡ Some e = sym p.1 ∙ q.1 in absurd cc
one_choice first second f g d e (inr p) (inr q) = (p.0 ∙ sym q.0, some_is d e (sym p.2 ∙ q.2))

-- the first test that fails of the header of a file
abbrev header_fails : Files → ℕ → Option Damaged
header_fails files n = first_failed ((form_of (field 5 4 (bytes_of (files n))) n).tests (bytes_of (files n)))

module _ (files : Files) (f g : ℕ) (d e : Damaged) where
  headers : HeaderFault files f d → HeaderFault files g e → (f ≡ g) × (d ≡ e)
  headers (inl p) (inl q) = one_choice (bytes_of (files 0)) (bytes_of (files 1)) f g d e p.fails q.fails
  headers (inl p) (inr q) = absurd (no_choice_fault g files f d q.picked p)
  headers (inr p) (inl q) = absurd (no_choice_fault f files g e p.picked q)
  headers (inr p) (inr q) =
      let same : f ≡ g = picked_once f g files p.picked q.picked in
      (same, some_is d e (sym p.fails ∙ ap (header_fails files) same ∙ q.fails))

  header_records : HeaderFault files f d → RecordFault files g e → ⊥
  header_records (inl p) q = no_choice_fault q.form.file files f d q.picked p
  header_records (inr p) q =
      let bytes = bytes_of (files q.form.file) in
      let valid : header_fails files q.form.file ≡ None = ap (λ (x : Form). first_failed (x.tests bytes))
      (read_form q.form bytes q.journal q.known q.read) ∙ read_valid q.form bytes q.journal q.known q.read in
      let no : None ≡ Some d = sym valid ∙ (rw (picked_once f q.form.file files p.picked q.picked) at p.fails) in
      absurd cc

  header_sizes : HeaderFault files f d → SizeFault files g e → ⊥
  header_sizes p q = no_header_fault files q.form q.log q.kept q.stands f d p

  records : RecordFault files f d → RecordFault files g e → (f ≡ g) × (d ≡ e)
  records p q =
      let file : p.form.file ≡ q.form.file = picked_once p.form.file q.form.file files p.picked q.picked in
      let bytes = bytes_of (files q.form.file) in
      let form : p.form ≡ q.form =
      sym (read_form p.form (bytes_of (files p.form.file)) p.journal p.known p.read)
      ∙ ap (λ (n : ℕ). form_of (field 5 4 (bytes_of (files n))) n) file
      ∙ read_form q.form bytes q.journal q.known q.read in
      let one = read_once q.form bytes p.journal q.journal q.known (rw form at p.read) q.read in
      (p.same ∙ file ∙ sym q.same, some_is d e (sym p.first ∙ rw (form, one) q.first))

  record_sizes : RecordFault files f d → SizeFault files g e → ⊥
  record_sizes p q = no_record_fault files q.form q.log q.kept q.stands f d p

  sizes : SizeFault files f d → SizeFault files g e → (f ≡ g) × (d ≡ e)
  sizes p q =
      let one : p.kept ≡ q.kept = same_saved files p.form q.form p.log q.log p.kept q.kept p.stands q.stands in
      let first = rw one at p.first in
      let block : p.block ≡ q.block = same_block p.block q.block (first.first q.block q.first.named q.first.wrong)
      (q.first.first p.block first.named first.wrong) in (
        p.tells.0 ∙ rw block (sym q.tells.0),
        p.tells.1 ∙ rw block (sym q.tells.1),
      )

pub one_fault : HasOneFault
one_fault files f g d e (inl p) (inl q) = headers files f g d e p q
one_fault files f g d e (inl p) (inr (inl q)) = absurd (header_records files f g d e p q)
one_fault files f g d e (inl p) (inr (inr q)) = absurd (header_sizes files f g d e p q)
one_fault files f g d e (inr (inl p)) (inl q) = absurd (header_records files g f e d q p)
one_fault files f g d e (inr (inl p)) (inr (inl q)) = records files f g d e p q
one_fault files f g d e (inr (inl p)) (inr (inr q)) = absurd (record_sizes files f g d e p q)
one_fault files f g d e (inr (inr p)) (inl q) = absurd (header_sizes files g f e d q p)
one_fault files f g d e (inr (inr p)) (inr (inl q)) = absurd (record_sizes files g f e d q p)
one_fault files f g d e (inr (inr p)) (inr (inr q)) = sizes files f g d e p q
