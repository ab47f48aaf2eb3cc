-- What is answered where no count of faults of the store rises.
use Rattle.std.specs.Prelude.{◌≡◌, IsSome, None, List, IfErr}
use Rattle.pcm_base.specs.{declared.command.Call.Call, declared.entry.Entry.Entry, declared.refusal.Refusal.Refusal}
use Rattle.pcm_base.specs.{Causes.Rose, Run.Run, Run.name_in, Run.result_of}
use Rattle.pin_turn.specs.Counts.{Each}
use Rattle.disk_model.specs.declared.store.Store.{Ghosts}
use Rattle.editor_state.specs.{Core.Core, Studios.IsHeld, Studios.studio_of}
use Rattle.studio_seats.specs.Stands.{AreTold, StandsFor, origin}
use Rattle.studio_seats.specs.{declared.deed.Deed.Deed, Leads.IsUnharmed}
use Rattle.pcm_base.specs.declared.refusal.Refusal.TheVariants as refusal
use Rattle.pcm_base.specs.Studio as model
use Rattle.edit_ports.specs.declared.vault.Vault as vault

-- no count of faults rose, and none stands at its type's end
pub record IsCalm (t u : model.Studio) : Type 0 where
  pub reads : Rose t.read_faults u.read_faults → ⊥
  pub changes : Rose t.change_faults u.change_faults → ⊥

-- The store did not cause this reason: neither did it fail, nor had the studio stopped. Only a call that
-- names a sound may return that the vault failed.
abbrev pub IsServed : Call → Refusal → Type 0
IsServed c refusal.DiskFault = ⊥
IsServed c (refusal.Stopped faults) = ⊥
IsServed c refusal.VaultFault = IsSome (name_in c)
IsServed c why = Unit {0}

abbrev pub AreServed : List Entry → Type 0
AreServed es = Each (λ e. IfErr (result_of e.reply) (IsServed e.call)) es

-- From a studio that goes on, a run in which no count of faults of the store rises: the store caused no refusal, and
-- the studio goes on.
pub record Serves (t u : model.Studio) (es : List Entry) : Type 0 where
  pub going : u.stopped ≡ None
  pub served : AreServed es

abbrev pub FaultsAreCounted : Type 0
FaultsAreCounted = (t u : model.Studio) (es : List Entry) → Run t es u → t.stopped ≡ None → IsCalm t u → Serves t u es

-- The same of the deeds of a desk, where the disk held the start and vaults report if a deed names a sound. No deed
-- reports a damaged file either.
pub record AllServed {D : Type 0} (now : Core D) (deeds : List Deed) : Type 0 where
  pub going : now.stopped ≡ None
  pub served : Each (λ d. IfErr d.what (IsServed d.call)) deeds
  pub unharmed : Each (λ d. IfErr d.what IsUnharmed) deeds

abbrev pub DesksServe : {D V : Type 0} → Ghosts D → vault.Ghosts V → Type 0
DesksServe {D} disk vaults = (start now : Core D) (deeds : List Deed) → StandsFor (origin disk vaults start) now deeds
    → AreTold vaults deeds → IsHeld disk start → start.stopped ≡ None
    → IsCalm (studio_of disk start) (studio_of disk now) → AllServed now deeds
