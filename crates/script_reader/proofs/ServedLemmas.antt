-- Where no device fails, a script's deeds tell of none.
use Rattle.std.proofs.Common.{subst, IsSome, IfErr, List, [], ◌∷◌, ◌++◌, Result, Ok, Err}
use Rattle.pcm_base.specs.{declared.answer.Reply.Reply, declared.command.Call.Call, declared.refusal.Refusal.Refusal}
use Rattle.pcm_base.specs.{Run.name_in}
use Rattle.disk_model.specs.declared.store.Store.{Ghosts}
use Rattle.pin_turn.specs.Counts.{Each}
use Rattle.pin_turn.proofs.Sums.{Each-left, Each-right}
use Rattle.editor_state.specs.Core.{Core}
use Rattle.studio_seats.specs.{declared.deed.Deed.Deed, Faults.IsServed, Merge.by_seat, Merge.deeds_of}
use Rattle.studio_seats.specs.{Leads.IsUnharmed, Stands.StandsFor, Stands.origin}
use Rattle.studio_seats.proofs.FaultLemmas.{desks_serve}
use Rattle.script_reader.specs.Served.{IsOfNoDevice, IsUndisturbed, ScriptsServe, TellsNoDevice}
use Rattle.script_reader.specs.{Added.Adds, Added.IsNoVault, Added.SparesVault, Change.change, Place.Place}
use Rattle.script_reader.proofs.{AddedLemmas.scripts_add, BounceLemmas.each_own}
use Rattle.pcm_base.specs.declared.refusal.Refusal.TheVariants as refusal
use Rattle.edit_ports.specs.declared.vault.Vault as vault

-- ---- no device is told of

fair_one : (c : Call) (what : Result Reply Refusal) → IfErr what (IsServed c) → IfErr what IsUnharmed
    → (IsSome (name_in c) → IfErr what IsNoVault) → IfErr what IsOfNoDevice
fair_one c (Ok r) served unharmed spares = tt
fair_one c (Err refusal.DiskFault) served unharmed spares = absurd served
fair_one c (Err (refusal.Stopped faults)) served unharmed spares = absurd served
fair_one c (Err refusal.VaultFault) served unharmed spares = absurd (spares served)
fair_one c (Err (refusal.Damaged file at want have)) served unharmed spares = absurd unharmed
fair_one c (Err why) served unharmed spares = tt

fair_each : (ds : List Deed) → Each (λ d. IfErr d.what (IsServed d.call)) ds → Each (λ d. IfErr d.what IsUnharmed) ds
    → Each SparesVault ds → Each TellsNoDevice ds
fair_each [] served unharmed spares = tt
fair_each (d ∷ ds) served unharmed spares =
    (fair_one d.call d.what served.0 unharmed.0 spares.0, fair_each ds served.1 unharmed.1 spares.1)

-- of what a script added
pub fair_added : {D V : Type 0} (disk : Ghosts D) (vaults : vault.Ghosts V) (p q : Place) (start now : Core D)
    (later : List Deed) (adds : Adds p q)
    → StandsFor (origin disk vaults start) now (q.seen ++ later)
    → IsUndisturbed (origin disk vaults start) now (q.seen ++ later) (change p.faults q.faults)
    → Each TellsNoDevice (deeds_of (by_seat p.seat) adds.added)
fair_added disk vaults p q start now later adds stands quiet =
    let all = desks_serve disk vaults start now (q.seen ++ later) stands quiet.told quiet.held quiet.going quiet.calm in
    let Served : Deed → Type 0 = λ d. IfErr d.what (IsServed d.call) in
    let Unharmed : Deed → Type 0 = λ d. IfErr d.what IsUnharmed in
    let own = by_seat p.seat in
    let served : Each Served (p.seen ++ adds.added) =
    subst (Each Served) adds.seen (Each-left Served q.seen later all.served) in
    let unharmed : Each Unharmed (p.seen ++ adds.added) =
    subst (Each Unharmed) adds.seen (Each-left Unharmed q.seen later all.unharmed) in
    fair_each (deeds_of own adds.added)
    (each_own Served own adds.added (Each-right Served p.seen adds.added served))
    (each_own Unharmed own adds.added (Each-right Unharmed p.seen adds.added unharmed)) (adds.spares quiet.vault)

pub scripts_serve : {D V : Type 0} (disk : Ghosts D) (vaults : vault.Ghosts V) → ScriptsServe disk vaults
scripts_serve disk vaults lines answers p q start now later by_line stands quiet =
    let adds = scripts_add lines answers p q by_line in
    record {
      added = adds.added;
      seen = adds.seen;
      fair = fair_added disk vaults p q start now later adds stands quiet;
    }
