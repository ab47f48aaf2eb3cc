-- What making a block answers.
use Rattle.std.specs.Prelude.{◌≡◌, ◌≤◌, ℕ, ℤ, List, Option, Some, Result, MatchResult}
use Rattle.disk_model.specs.Disk.{Files}
use Rattle.pcm_base.specs.Pieces.{samples_of, all_samples}
use Rattle.pcm_base.specs.{Causes.Rose, declared.piece.Piece.Piece, declared.refusal.Refusal.Refusal}
use Rattle.sample_block.specs.Sources.{sources_with}
use Rattle.block_store.specs.{Reads.CountedBy, Reasons.reason_of}
use Rattle.block_writer.specs.declared.fault.MakeFault.TheVariants.{Read, Bring, Put}
use Rattle.block_writer.specs.Brought.{Brought, IsNotBrought, BroughtCountedBy, MayBring, bring_refusal}
use Rattle.block_writer.specs.{declared.fault.MakeFault.MakeFault, Reading.IsFaultAmong, Reading.IsFaultOf}
use Rattle.pcm_base.specs.declared.refusal.Refusal.TheVariants as refusal
use Rattle.block_store.specs.declared.fault.BlockFault.TheVariants as fault

-- what a fault says of the pieces' files
abbrev pub IsFaultRead : Files → List Piece → MakeFault → Type 0
IsFaultRead files ps (Read why) = IsFaultAmong files ps why
IsFaultRead files ps (Bring why) = Unit {0}
IsFaultRead files ps Put = Unit {0}

-- the same of the file of one piece
abbrev pub IsFaultReadOf : Files → Piece → MakeFault → Type 0
IsFaultReadOf files p (Read why) = IsFaultOf files p why
IsFaultReadOf files p (Bring why) = Unit {0}
IsFaultReadOf files p Put = Unit {0}

-- the disk failed, or what the command brings did not come
abbrev pub IsOfDevice : MakeFault → Type 0
IsOfDevice (Read why) = why ≡ fault.DiskFault
IsOfDevice (Bring why) = Unit {0}
IsOfDevice Put = Unit {0}

-- what the command brings does not come only where it may fail to
abbrev pub IsBroughtFault : Brought → MakeFault → Type 0
IsBroughtFault b (Read why) = Unit {0}
IsBroughtFault b (Bring why) = IsNotBrought b why
IsBroughtFault b Put = Unit {0}

-- what holds where a piece could not be read, or did not come
abbrev pub NotPut : MakeFault → Type 0 → Type 0
NotPut (Read why) kept = kept
NotPut (Bring why) kept = kept
NotPut Put kept = Unit {0}

-- where the disk failed the count of these faults rose, of reads or of changing calls; the other stays, as both do
-- elsewhere
abbrev pub MadeBy : MakeFault → ℕ → ℕ → ℕ → ℕ → Type 0
MadeBy (Read why) reads reads' changes changes' = CountedBy why reads reads' × (changes' ≡ changes)
MadeBy (Bring why) reads reads' changes changes' = (reads' ≡ reads) × (changes' ≡ changes)
MadeBy Put reads reads' changes changes' = (reads' ≡ reads) × (Rose changes changes' × (changes ≤ changes'))

abbrev pub MadeCounted : {T : Type 0} → Result T MakeFault → ℕ → ℕ → ℕ → ℕ → Type 0
MadeCounted result reads reads' changes changes' =
    MatchResult result (λ _. (reads' ≡ reads) × (changes' ≡ changes)) (λ why. MadeBy why reads reads' changes changes')

-- where a vault failed its count of faults rose, and elsewhere it stays
abbrev pub MadeBroughtBy : MakeFault → ℕ → ℕ → Type 0
MadeBroughtBy (Read why) old new = new ≡ old
MadeBroughtBy (Bring why) old new = BroughtCountedBy why old new
MadeBroughtBy Put old new = new ≡ old

abbrev pub MadeBrought : {T : Type 0} → Result T MakeFault → ℕ → ℕ → Type 0
MadeBrought result old new = MatchResult result (λ _. new ≡ old) (λ why. MadeBroughtBy why old new)

-- the reason of a line that meets it
abbrev pub make_refusal : MakeFault → Refusal
make_refusal (Read why) = reason_of why
make_refusal (Bring why) = bring_refusal why
make_refusal Put = refusal.DiskFault

-- ---- samples

-- these are the samples of a piece, by some samples that may be brought
pub record IsPart (b : Brought) (files : Files) (p : Piece) (xs : List ℤ) : Type 0 where
  pub given : ℕ → ℤ
  pub may : MayBring b given
  pub is : xs ≡ samples_of (sources_with files given) p

-- the same of pieces one after another
pub record AreParts (b : Brought) (files : Files) (ps : List Piece) (xs : List ℤ) : Type 0 where
  pub given : ℕ → ℤ
  pub may : MayBring b given
  pub is : xs ≡ all_samples (sources_with files given) ps

-- a block that was made has them
pub record IsFilled (b : Brought) (files : Files) (ps : List Piece) (block : Option (List ℤ)) : Type 0 where
  pub given : ℕ → ℤ
  pub may : MayBring b given
  pub is : block ≡ Some (all_samples (sources_with files given) ps)
