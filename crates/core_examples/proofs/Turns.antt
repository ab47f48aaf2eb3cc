-- Every line but a bounce is one turn.
use Rattle.std.proofs.Common.{◌≡◌, ℕ, List, refl}
use Rattle.pcm_base.specs.{declared.command.Command.Command, declared.command.Command.TheVariants.Bounce, Form.IsTurn}

pub turn_of : (c : Command) → ((name : List ℕ) → c ≡ Bounce name → ⊥) → IsTurn c
turn_of (Bounce name) another = absurd (another name refl)
turn_of c another = tt
