-- The faults of a call that may also want memory, which is no fault of the disk.
use Rattle.std.specs.Prelude.{◌≡◌, ℕ, ◌≤◌, Result, IsErrOf}
use Rattle.pcm_base.specs.Causes.{Rose}
use Rattle.disk_model.specs.{declared.store.ListFault.ListFault, declared.store.ListFault.TheVariants.Failed}

-- it answers Failed only where the count rose in it, and any other answer leaves the count as it was
pub record HasListCause {T : Type 0} (before now : ℕ) (result : Result T ListFault) : Type 0 where
  pub later : before ≤ now
  pub failed : IsErrOf result Failed → Rose before now
  pub kept : (IsErrOf result Failed → ⊥) → now ≡ before
