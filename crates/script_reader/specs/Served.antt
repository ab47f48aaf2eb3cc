-- What a script tells where no device fails.
use Rattle.std.specs.Prelude.{◌≡◌, ℕ, None, List, ◌++◌, IfErr}
use Rattle.pcm_base.specs.{declared.answer.Answer.Answer, declared.refusal.Refusal.Refusal, Causes.Rose}
use Rattle.disk_model.specs.declared.store.Store.{Ghosts}
use Rattle.pin_turn.specs.Counts.{Each}
use Rattle.editor_state.specs.{Core.Core, Studios.IsHeld, Studios.studio_of}
use Rattle.studio_seats.specs.Stands.{AreTold, Origin, StandsFor, origin}
use Rattle.studio_seats.specs.{declared.deed.Deed.Deed, Faults.IsCalm, Merge.by_seat, Merge.deeds_of}
use Rattle.script_reader.specs.{Change.Change, Change.change, Place.Place, Answering.AnswersLines}
use Rattle.pcm_base.specs.declared.refusal.Refusal.TheVariants as refusal
use Rattle.edit_ports.specs.declared.vault.Vault as vault

-- no device caused this reason: none failed, none had failed before, and no file is damaged
abbrev pub IsOfNoDevice : Refusal → Type 0
IsOfNoDevice refusal.DiskFault = ⊥
IsOfNoDevice (refusal.Stopped faults) = ⊥
IsOfNoDevice refusal.VaultFault = ⊥
IsOfNoDevice (refusal.Damaged file at want have) = ⊥
IsOfNoDevice why = Unit {0}

abbrev pub TellsNoDevice : Deed → Type 0
TellsNoDevice d = IfErr d.what IsOfNoDevice

-- Vaults report their bytes where a deed names a sound, the disk held a studio that goes on, and no count of faults
-- rose, of the store or of the vault that the script had.
pub record IsUndisturbed {D V : Type 0} (o : Origin D V) (now : Core D) (deeds : List Deed) (vault_faults : Change ℕ)
    : Type 0 where
  pub told : AreTold o.vaults deeds
  pub held : IsHeld o.disk o.start
  pub going : o.start.stopped ≡ None
  pub calm : IsCalm (studio_of o.disk o.start) (studio_of o.disk now)
  pub vault : Rose vault_faults.before vault_faults.now → ⊥

-- a script's own deeds say of no device that it failed
pub record Serves (p q : Place) : Type 0 where
  pub added : List Deed
  pub seen : q.seen ≡ p.seen ++ added
  pub fair : Each TellsNoDevice (deeds_of (by_seat p.seat) added)

abbrev pub ScriptsServe : {D V : Type 0} → Ghosts D → vault.Ghosts V → Type 0
ScriptsServe {D} disk vaults = (lines : List (List ℕ)) (answers : List Answer) (p q : Place) (start now : Core D)
    (later : List Deed) → AnswersLines p lines answers q → StandsFor (origin disk vaults start) now (q.seen ++ later)
    → IsUndisturbed (origin disk vaults start) now (q.seen ++ later) (change p.faults q.faults) → Serves p q
