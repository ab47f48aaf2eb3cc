-- A vault cuts off none but a call that reads a sound, and refuses only where it may fail.
use Rattle.editor_edits.proofs.Common.{◌⊎◌, inl, inr, Call, Refusal, Truncated, Brought, MayServe, Serves, IsInsideOr}
use Rattle.editor_edits.proofs.Common.{OrCut}
use Rattle.editor_state.specs.{Vaults.IsCutShort, Makes.IsBroughtRefusal}
use Rattle.pcm_base.specs.declared.refusal.Refusal.TheVariants as refusal

pub serves_so : (b : Brought) (c : Call) (why : Refusal) → IsInsideOr b why → MayServe b c → Serves c why
serves_so b c refusal.VaultFault inside may = may inside
serves_so b c (refusal.BadWav (Truncated want have)) inside may = may inside.0
serves_so b c why inside may = tt

pub cut_or : (b : Brought) (why : Refusal) {P : Type 0} → IsInsideOr b why → OrCut why P → IsCutShort why ⊎ P
cut_or b (refusal.BadWav (Truncated want have)) inside or = inl inside.1
cut_or b why inside or = inr or

pub brought_inside : (b : Brought) (why : Refusal) → IsBroughtRefusal b why → IsInsideOr b why
brought_inside b refusal.VaultFault by = by
brought_inside b (refusal.BadWav (Truncated want have)) by = by
brought_inside b (refusal.BadWav fault) by = absurd by
brought_inside b why by = tt
