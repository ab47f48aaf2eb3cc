-- What deeds ask of the disk, one after another.
use Rattle.studio_seats.proofs.Common.{List, [], ◌∷◌, Ghosts, Core, IsStudio, Deed, Chain, VaultGhosts}
use Rattle.disk_model.specs.{Frames.Changed}
use Rattle.disk_model.proofs.{Frames.Fewer, Frames.changed_none, Frames.changed_turn, Rooms.within_refl}
use Rattle.editor_state.specs.{Left.LeavesForeign}
use Rattle.editor_state.proofs.Calls.OtherFiles.{foreign_of, foreign_same, foreign_then}
use Rattle.studio_seats.specs.{Leads.DeedsAsk, Leads.chain_asks}

module _ {D V : Type 0} (disk : Ghosts D) (vaults : VaultGhosts V) (fewer : (store : D) → Fewer disk store) where
  asked : (old : Core D) (ds : List Deed) (new : Core D) (chain : Chain disk vaults old ds new) → IsStudio disk old
      → Changed disk LeavesForeign (chain_asks disk vaults old ds new chain) old.store new.store
  asked old [] new chain is = rw chain (changed_none old.store foreign_same (fewer old.store))
  asked old (d ∷ ds) new chain is =
      let one = foreign_of disk old chain.0 d.call is in
      changed_turn one (λ e f c step rest. foreign_then e f c (one e f step) rest)
      (within_refl (chain_asks disk vaults old (d ∷ ds) new chain))
      chain.1.lasts.changed (asked chain.0 ds new chain.2 chain.1.lasts.studio)

  pub deeds_ask : DeedsAsk disk vaults
  deeds_ask start now deeds stands = asked start deeds now stands.chain stands.began
