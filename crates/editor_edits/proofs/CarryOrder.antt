-- How an edit is carried out: once a block was made, nothing but the disk refuses.
use Rattle.editor_edits.proofs.Common.{◌≡◌, ◌⊎◌, inr, ⊎_elim, refl, length, Result, Ok, Err, IfErr, arith, rules}
use Rattle.editor_edits.proofs.Common.{Refusal, Ghosts, Adds, Core, Carried, IsPrepared, BlockCommit, batch_of}
use Rattle.editor_edits.proofs.Common.{ids_from, AreSynced, Making}
use Rattle.project_journal.specs.Journal.{rows_length}
use Rattle.editor_state.specs.{Adding.IsNoWant}
use Rattle.pcm_base.specs.declared.refusal.Refusal.TheVariants as refusal

either_one : {A : Type 0} → A ⊎ A → A
either_one h = ⊎_elim (λ x. x) (λ x. x) h

-- ---- how the code carries it out: after the first block was made nothing but the disk refuses

pub carried_by : {D : Type 0} (disk : Ghosts D) (s mid new : Core D) (c : BlockCommit)
    (result : Result (Unit {0}) Refusal)
    → Making disk s (batch_of c.given c.makes) (length c.makes) mid
    → disk.read_fault_count mid.store ≡ disk.read_fault_count s.store
    → AreSynced disk (ids_from s.next_block (length c.makes)) mid.store
    → IsPrepared s (length c.makes) c.tracks c.layouts c.count (rows_length c.bodies)
    → Adds disk mid c.bodies c.count (rows_length c.bodies) result new
    → Adds disk mid c.bodies c.count c.whole result new → IfErr result IsNoWant
    → Carried disk s c result new
carried_by disk s mid new c (Ok done) making reads synced prepared exact adds no_want =
    record { mid = mid; making = making; reads = reads; synced = synced; prepared = prepared; adds = adds }
carried_by disk s mid new c (Err refusal.DiskFault) making reads synced prepared exact adds no_want =
    inr (inr (
      refl,
      record {
        mid = mid;
        making = making;
        reads = reads;
        synced = synced;
        prepared = prepared;
        adds = adds;
      },
    ))
carried_by disk s mid new c (Err refusal.NoMemory) making reads synced prepared exact adds no_want =
    absurd no_want
carried_by disk s mid new c (Err (refusal.SpaceSpent have need)) making reads synced prepared exact adds no_want =
    search (rules, either_one)
carried_by disk s mid new c (Err (refusal.RecordLimit n)) making reads synced prepared exact adds no_want =
    let over = either_one exact.fields.1 in absurd (omega (arith, over.1, prepared.short))
carried_by disk s mid new c (Err why) making reads synced prepared exact adds no_want =
    absurd adds.fields
