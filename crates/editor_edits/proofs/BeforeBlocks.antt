-- What refuses an edit before its first block leaves the studio as it was.
use Rattle.editor_edits.proofs.Common.{◌≡◌, refl, true, false, Err, rules, true≢false, Refusal, Truncated, Ghosts}
use Rattle.editor_edits.proofs.Common.{BlockCommit, Carried, Core, may_begin, batch_of, Stuck}
use Rattle.pcm_base.specs.declared.refusal.Refusal.TheVariants as refusal

stuck_off : {D : Type 0} (disk : Ghosts D) (s new : Core D) (c : BlockCommit) (why : Refusal)
    → Stuck disk s (batch_of c.given c.makes) why new → may_begin why ≡ true
stuck_off disk s new c refusal.DiskFault stuck = refl
stuck_off disk s new c (refusal.Damaged file at want have) stuck = refl
stuck_off disk s new c refusal.VaultFault stuck = refl
stuck_off disk s new c (refusal.BadWav (Truncated want have)) stuck = refl
stuck_off disk s new c why stuck = absurd stuck.by

pub carried_still : {D : Type 0} (disk : Ghosts D) (s new : Core D) (c : BlockCommit) (why : Refusal)
    → Carried disk s c (Err why) new → may_begin why ≡ false → new ≡ s
carried_still disk s new c why carried off = search (rules, true≢false, stuck_off)
