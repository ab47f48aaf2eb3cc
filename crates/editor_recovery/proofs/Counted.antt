-- Calls in turn, by the faults that the disk counts in them.
use Rattle.editor_recovery.proofs.Common.{◌≡◌, inl, inr, Result, Err, refl, ◌∙◌, arith, IfErr}
use Rattle.editor_recovery.proofs.Common.{Ghosts, NoFault, JournalFault, OpenFault, Causes}
use Rattle.std.specs.Prelude.{IsErrOf}
use Rattle.project_journal.specs.{Answer.HasFault}
use Rattle.project_journal.specs.Answer as journal

module _ {D : Type 0} (disk : Ghosts D) where
  pub none_turn : (old mid new : D) → NoFault disk old mid → NoFault disk mid new → NoFault disk old new
  none_turn old mid new f g = record {
    same_read_faults = g.same_read_faults ∙ f.same_read_faults;
    same_change_faults = g.same_change_faults ∙ f.same_change_faults;
  }

  fault_after : (old mid new : D) → NoFault disk old mid → HasFault disk mid new → HasFault disk old new
  fault_after old mid new f g = record {
    rose = elim g.rose
        [ inl reads ↦ inl (rw f.same_read_faults at reads) | inr changes ↦ inr (rw f.same_change_faults at changes) ];
    later_reads = omega (arith, f.same_read_faults, g.later_reads);
    later_changes = omega (arith, f.same_change_faults, g.later_changes);
  }

  -- what a call answers after calls that counted no fault
  pub causes_turn : {T : Type 0} (old mid new : D) (r : Result T OpenFault) → NoFault disk old mid
      → Causes disk mid new r → Causes disk old new r
  causes_turn old mid new (Err OpenFault.DiskFault) f g = fault_after old mid new f g
  causes_turn old mid new _ f g = none_turn old mid new f g

  -- the same of a refusal that another call hands on
  pub causes_handed : (T U : Type 0) (old mid new : D) (e : OpenFault) → NoFault disk old mid
      → Causes {T = T} disk mid new (Err e) → Causes {T = U} disk old new (Err e)
  causes_handed T U old mid new OpenFault.DiskFault f g = fault_after old mid new f g
  causes_handed _ _ old mid new _ f g = none_turn old mid new f g

  -- what is worked out after them without the disk
  pub causes_none : {T : Type 0} (old new : D) (r : Result T OpenFault) → NoFault disk old new
      → (IsErrOf r OpenFault.DiskFault → ⊥) → Causes disk old new r
  causes_none old new (Err OpenFault.DiskFault) f not = absurd (not refl)
  causes_none old new _ f not = f

  -- a refusal of the journal that is not the disk's
  pub journal_none : (T : Type 0) (old new : D) (e : JournalFault) → (e ≡ JournalFault.DiskFault → ⊥)
      → journal.Causes {T = T} disk old new (Err e) → NoFault disk old new
  journal_none T old new JournalFault.DiskFault not f = absurd (not refl)
  journal_none _ old new _ not f = f

  -- no call at all
  pub no_fault : (store : D) → NoFault disk store store
  no_fault store = record { same_read_faults = refl; same_change_faults = refl }

-- want of memory is no fault of the disk
pub memory_none : {T : Type 0} (r : Result T OpenFault) → IfErr r (λ e. e ≡ OpenFault.NoMemory)
    → IsErrOf r OpenFault.DiskFault → ⊥
memory_none (Err OpenFault.DiskFault) memory e = absurd cc
memory_none _ memory e = absurd cc
