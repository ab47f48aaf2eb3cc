-- No call returns a damaged file, where the disk held the studio.
use Rattle.editor_state.proofs.Common.{Refusal, Ghosts, IsUndamaged, Core, Left, IsHeld, rules}
use Rattle.envelope_view.proofs.AnswerLaws.{whole_undamaged}
use Rattle.pcm_base.specs.declared.refusal.Refusal.TheVariants as refusal

-- what a refusal says of the disk is so, and each block that the studio names is whole
pub held_undamaged : {D : Type 0} (disk : Ghosts D) (old new : Core D) (why : Refusal)
    → IsHeld disk old → Left disk old new why → IsUndamaged why
held_undamaged disk old new (refusal.Damaged file at want have) held left = search (rules, whole_undamaged, left.so)
held_undamaged disk old new why held left = tt
