-- What is known of an import by samples that may have failed to come.
use Rattle.std.proofs.Common.{◌⊎◌, ⊎_elim, IsTrue, sym, ◌∙◌, Result, Ok, Err}
use Rattle.std.proofs.lemmas.Bool.{true≢false}
use Rattle.std.specs.Prelude.{IfErr, IfOk}
use Rattle.pcm_base.specs.{declared.refusal.Refusal.Refusal, declared.wav.WavFault.TheVariants.Truncated}
use Rattle.block_writer.specs.Brought.{Brought}
use Rattle.editor_state.specs.Vaults.{IfCutShort, IsCutShort, IsInsideOr}
use Rattle.pcm_base.specs.declared.refusal.Refusal.TheVariants as refusal

-- where it is known which samples come no sound is cut short
never_cut : {T : Type 0} (b : Brought) (r : Result T Refusal) → IsTrue b.tells → IfErr r (IsInsideOr b)
    → IfCutShort r → ⊥
never_cut b (Ok x) told inside cut = cut
never_cut b (Err (refusal.BadWav (Truncated want have))) told inside cut = true≢false (sym told ∙ inside.2)
never_cut b (Err why) told inside cut = cut

pub known_did : {T P : Type 0} (b : Brought) (r : Result T Refusal) → IsTrue b.tells → IfErr r (IsInsideOr b)
    → IfCutShort r ⊎ P → P
known_did b r told inside did = ⊎_elim (λ cut. absurd (never_cut b r told inside cut)) (λ p. p) did

pub did_ok : {T P : Type 0} (r : Result T Refusal) → IfCutShort r ⊎ P → IfOk r (λ x. P)
did_ok (Ok x) did = ⊎_elim (λ cut. absurd cut) (λ p. p) did
did_ok (Err why) did = tt

pub did_err : {T P : Type 0} (r : Result T Refusal) → IfCutShort r ⊎ P → IfErr r (λ why. IsCutShort why ⊎ P)
did_err (Ok x) did = tt
did_err (Err why) did = did
