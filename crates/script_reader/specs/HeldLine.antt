-- The bytes of a line that has not ended yet, as they are kept.
use Rattle.std.specs.Prelude.{◌≡◌, ℕ, ◌<◌, ◌≤◌, List, length, Bool, MatchBool}
use Rattle.script_text.specs.declared.parsing.TheConstants.{MAX_LINE}

-- the bytes, or that there are too many for a line
pub record HeldLine : Type 0 where
  pub bytes : List ℕ
  pub long : Bool

abbrev pub Holds : HeldLine → List ℕ → Type 0
Holds kept part = MatchBool kept.long (MAX_LINE < length part) ((kept.bytes ≡ part) × (length part ≤ MAX_LINE))
