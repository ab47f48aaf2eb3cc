-- An edit whose samples are known before it is carried out.
use Rattle.editor_edits.proofs.Common.{◌⊎◌, ℕ, ℤ, sym, Result, Ok, Err, IfErr, rules, true≢false, Call, SoundMove}
use Rattle.editor_edits.proofs.Common.{Refusal, Truncated, Ghosts, Brought, IsEdit, IsPlanned, MayServe, Core}
use Rattle.editor_edits.proofs.Common.{IsInsideOr}
use Rattle.block_writer.specs.{declared.given.Given.Given, Bringing.brought, Bringing.brought_by, Brought.MayBring}
use Rattle.editor_state.specs.Edits.{tagged_by}
use Rattle.editor_state.specs.{declared.planned.Planned.Planned, Vaults.IfCutShort}
use Rattle.pcm_base.specs.declared.refusal.Refusal.TheVariants as refusal

-- what is planned does not depend on which samples come
pub planned_any : {D : Type 0} (s : Core D) (p : Planned) (tag more : ℕ) (b : Brought) (f g : ℕ → ℤ)
    → IsPlanned s (tagged_by p tag more b f) → IsPlanned s (tagged_by p tag more b g)
planned_any s p tag more b f g is = search rules

never_cut : (given : Given) (result : Result ℕ Refusal) → IfErr result (IsInsideOr (brought_by given))
    → IfCutShort result → ⊥
never_cut given (Ok n) inside cut = cut
never_cut given (Err (refusal.BadWav (Truncated want have))) inside cut = true≢false (sym inside.0)
never_cut given (Err why) inside cut = cut

never_serves : (given : Given) (c : Call) → MayServe (brought_by given) c
never_serves given c may = absurd (true≢false (sym may))

pub known_took : {D : Type 0} (disk : Ghosts D) (s : Core D) (p : Planned) (tag more : ℕ) (given : Given)
    (result : Result ℕ Refusal) (T : Call → SoundMove → Type 0)
    → (samples : ℕ → ℤ) × MayBring (brought_by given) samples × ((c : Call) → (sound : SoundMove)
    → MayServe (brought_by given) c → IsEdit disk s c sound (tagged_by p tag more (brought_by given) samples)
    → IfCutShort result ⊎ T c sound)
    → IfErr result (IsInsideOr (brought_by given)) → (c : Call) (sound : SoundMove)
    → IsEdit disk s c sound (tagged_by p tag more (brought_by given) (brought given)) → T c sound
known_took disk s p tag more given result T by inside c sound edit = search (rules, never_cut, never_serves)
