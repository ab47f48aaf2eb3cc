-- What is known of the samples that a command brings, whoever brings them.
use Rattle.std.specs.Prelude.{◌≡◌, ◌<◌, ◌≤◌, ℕ, ℤ, Bool, false, IsTrue, List, [], ◌∷◌, Result, MatchResult, FitsSigned}
use Rattle.std.specs.Int.{w16}
use Rattle.pcm_base.specs.declared.piece.Piece.TheVariants.{Old, Scaled, Zero, Given}
use Rattle.pcm_base.specs.{Causes.Rose, Outside.Sounds, declared.piece.Piece.Piece, declared.refusal.Refusal.Refusal}
use Rattle.pcm_base.specs.{declared.wav.WavFault.TheVariants.Truncated}
use Rattle.block_writer.specs.declared.fault.BringFault.{BringFault}
use Rattle.block_writer.specs.declared.fault.BringFault.TheVariants.{Vault, Short}
use Rattle.pcm_base.specs.declared.refusal.Refusal.TheVariants as refusal

-- How many samples there are. Whether it is known before they are read which these are, and then each by its place.
-- Whether they may fail to come. And what the vault holds that they come from, if they do.
pub record Brought : Type 0 where
  pub count : ℕ
  pub tells : Bool
  pub samples : ℕ → ℤ
  pub may_fail : Bool
  pub sounds : Sounds

-- These may be the samples: those that are known, or where none are known any of 16 bits.
pub record MayBring (b : Brought) (given : ℕ → ℤ) : Type 0 where
  pub known : IsTrue b.tells → given ≡ b.samples
  pub fit : b.tells ≡ false → (i : ℕ) → FitsSigned w16 (given i)

-- ---- faults

-- why they may not come: fewer bytes than were said come only where it is not known which these are
abbrev pub IsNotBrought : Brought → BringFault → Type 0
IsNotBrought b Vault = IsTrue b.may_fail
IsNotBrought b (Short want have) = IsTrue b.may_fail × (have < want) × (b.tells ≡ false)

-- the vault's count of faults rises where the vault failed, and stays elsewhere
abbrev pub BroughtCountedBy : BringFault → ℕ → ℕ → Type 0
BroughtCountedBy Vault old new = Rose old new × (old ≤ new)
BroughtCountedBy (Short want have) old new = new ≡ old

abbrev pub BroughtCounted : {T : Type 0} → Result T BringFault → ℕ → ℕ → Type 0
BroughtCounted result old new = MatchResult result (λ _. new ≡ old) (λ why. BroughtCountedBy why old new)

-- the reason of a line that meets it
abbrev pub bring_refusal : BringFault → Refusal
bring_refusal Vault = refusal.VaultFault
bring_refusal (Short want have) = refusal.BadWav (Truncated want have)

-- ---- order

-- a part of what is brought lies from a place on up to another, unless it is empty
abbrev pub LiesBetween : ℕ → ℕ → Piece → Type 0
LiesBetween low high (Old b from to) = Unit {0}
LiesBetween low high (Scaled b from to gain) = Unit {0}
LiesBetween low high (Zero len) = Unit {0}
LiesBetween low high (Given from to) = from < to → (low ≤ from) × (to ≤ high)

-- The parts of what is brought come in order, from a place on up to another, so that no sample is read twice.
abbrev pub AreInOrder : ℕ → ℕ → List Piece → Type 0
AreInOrder low high [] = low ≤ high
AreInOrder low high (p ∷ ps) = (mid : ℕ) × (low ≤ mid) × LiesBetween low mid p × AreInOrder mid high ps
