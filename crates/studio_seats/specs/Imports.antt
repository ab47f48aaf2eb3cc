-- What the deeds of a desk are over vaults that do not report their bytes: those of a desk over vaults that do, of
-- which each import reads some sound.
use Rattle.std.specs.Prelude.{◌≡◌, ◌⊎◌, true, false, IsSome, None, List, [], ◌∷◌}
use Rattle.pcm_base.specs.Run.{name_in}
use Rattle.disk_model.specs.declared.store.Store.{Ghosts}
use Rattle.pin_turn.specs.Counts.{Each}
use Rattle.editor_state.specs.{Core.Core, Exchanges.reads_sound, Vaults.IfCutShort}
use Rattle.studio_seats.specs.Stands.{AllTell, AreTold, StandsFor, origin}
use Rattle.studio_seats.specs.{declared.deed.Deed.Deed, Leads.Leads}
use Rattle.edit_ports.specs.declared.vault.Vault as vault

-- vaults that report their bytes
abbrev pub telling : vault.Ghosts (Unit {0})
telling = record { tells = λ v. true; holds = λ v name. None; fault_count = λ v. 0 }

-- Where the deed names a sound, vaults report their bytes, or it is an import that did not return a sound cut short.
abbrev pub IsReadable : {V : Type 0} → vault.Ghosts V → Deed → Type 0
IsReadable vaults d =
    IsSome (name_in d.call) → AllTell vaults ⊎ ((reads_sound d.call ≡ true) × (IfCutShort d.what → ⊥))

-- the same deed with the sound that its import read: no other deed is by another sound
pub record IsReadAs (d e : Deed) : Type 0 where
  pub same : e ≡ record d { sound = e.sound }
  pub sound : reads_sound d.call ≡ false → e.sound ≡ d.sound

abbrev pub AreReadAs : List Deed → List Deed → Type 0
AreReadAs [] [] = Unit {0}
AreReadAs [] (e ∷ es) = ⊥
AreReadAs (d ∷ ds) [] = ⊥
AreReadAs (d ∷ ds) (e ∷ es) = IsReadAs d e × AreReadAs ds es

-- With the sounds that its imports read, deeds lead to a studio as those of a desk whose vaults report their bytes.
pub record LeadsByRead {D : Type 0} (disk : Ghosts D) (start now : Core D) (deeds : List Deed) : Type 0 where
  pub read : List Deed
  pub are : AreReadAs deeds read
  pub told : AreTold telling read
  pub stands : StandsFor (origin disk telling start) now read
  pub leads : Leads (origin disk telling start) now read

abbrev pub ImportsLead : {D V : Type 0} → Ghosts D → vault.Ghosts V → Type 0
ImportsLead {D} disk vaults = (start now : Core D) (deeds : List Deed) → StandsFor (origin disk vaults start) now deeds
    → Each (IsReadable vaults) deeds → LeadsByRead disk start now deeds
