-- An edit that is carried out finds no damaged file, where the disk holds the studio and has the blocks that are read.
use Rattle.editor_blocks.proofs.Common.{rules, ◌≡◌, ⊎_elim, sym, subst, ℕ, None, length, Err, Refusal, Truncated}
use Rattle.editor_blocks.proofs.Common.{Ghosts, Core, PiecesThere, IsOfDevices, IsHeld, IsStudio}
use Rattle.envelope_view.specs.Answers.{IsUndamaged}
use Rattle.project_journal.specs.Journal.{rows_length}
use Rattle.editor_state.specs.Edits.{Carried, NotPrepared, BlockCommit}
use Rattle.editor_blocks.proofs.StudioBlocks.{absent}
use Rattle.pcm_base.specs.declared.refusal.Refusal.TheVariants as refusal

-- a device's fault is no damage
device_undamaged : (why : Refusal) → IsOfDevices why → IsUndamaged why
device_undamaged refusal.DiskFault of = tt
device_undamaged refusal.VaultFault of = tt
device_undamaged (refusal.BadWav (Truncated want have)) of = tt
device_undamaged why of = absurd of

module _ {D : Type 0} (disk : Ghosts D) (s : Core D) (is : IsStudio disk s) (going : s.stopped ≡ None)
    (c : BlockCommit) (why : Refusal) where
  abbrev n : ℕ
  n = length c.makes

  unprepared : NotPrepared s n c.tracks c.layouts c.count c.whole (rows_length c.bodies) why → IsUndamaged why
  unprepared = search rules

  pub no_damage : (new : Core D) → IsHeld disk s → PiecesThere (disk.reads s.store) c.makes
      → Carried disk s c (Err why) new → IsUndamaged why
  no_damage new held there carried = ⊎_elim
      (λ not. unprepared not.1)
      (⊎_elim
      (λ some. device_undamaged why (some.1.valid held.tells there (absent disk s is n going held some.0.blocks)))
      (λ last. subst IsUndamaged (sym last.0) tt))
      carried
