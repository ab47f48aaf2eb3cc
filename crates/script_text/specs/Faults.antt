-- The reason that a line without a command is refused by.
use Rattle.pcm_base.specs.declared.refusal.Refusal.{Refusal}
use Rattle.script_text.specs.declared.LineFault.{LineFault}
use Rattle.script_text.specs.declared.LineFault.TheVariants.{BadLine, NoMemory}
use Rattle.pcm_base.specs.declared.refusal.Refusal.TheVariants as refusal

abbrev pub refusal_of : LineFault → Refusal
refusal_of (BadLine column) = refusal.BadLine column
refusal_of NoMemory = refusal.NoMemory
