-- What a studio stands for, as the turn holds it.
use Rattle.std.specs.Prelude.{List}
use Rattle.disk_model.specs.declared.store.Store.{Ghosts}
use Rattle.editor_core.specs.Core.{core_of}
use Rattle.studio_seats.specs.{declared.deed.Deed.Deed, declared.held.Held.Held, Stands.StandsFor, Stands.origin}
use Rattle.edit_ports.specs.declared.vault.Vault as vault

abbrev pub HeldFor : {D V : Type 0} (disk : Ghosts D) → vault.Ghosts V → Held D V disk → Held D V disk → List Deed
    → Type 0
HeldFor disk vaults start now deeds =
    StandsFor (origin disk vaults (core_of start.studio)) (core_of now.studio) deeds
