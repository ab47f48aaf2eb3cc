-- Pieces of sound, and the samples that they mean.
use Rattle.std.specs.Prelude.{ℕ, zero, suc, ◌+◌, ◌-◌, ◌≤◌, ◌<◌, ℤ, pos, List, [], ◌∷◌, ◌++◌, map, replicate}
use Rattle.pcm_base.specs.declared.piece.Piece.TheVariants.{Old, Scaled, Zero, Given}
use Rattle.pcm_base.specs.Arithmetic.{scaled, clamped}
use Rattle.pcm_base.specs.{declared.block.BlockRef.BlockRef, declared.piece.Piece.Piece}

-- where samples come from: those of each block by its id, and those that the command brings, each by its place;
-- total functions, since a part's length is that of its places, whatever a block holds
pub record Sources : Type 0 where
  pub block : ℕ → ℕ → ℤ
  pub given : ℕ → ℤ

-- this many samples, from a place on
abbrev pub stretch : (ℕ → ℤ) → ℕ → ℕ → List ℤ
stretch f from zero = []
stretch f from (suc n) = f from ∷ stretch f (suc from) n

abbrev pub piece_len : Piece → ℕ
piece_len (Old b from to) = to - from
piece_len (Scaled b from to gain) = to - from
piece_len (Zero len) = len
piece_len (Given from to) = to - from

abbrev pub samples_of : Sources → Piece → List ℤ
samples_of src (Old b from to) = stretch (src.block b.id) from (to - from)
samples_of src (Scaled b from to gain) = map (λ s. clamped (scaled gain s)) (stretch (src.block b.id) from (to - from))
samples_of src (Zero len) = replicate len (pos 0)
samples_of src (Given from to) = stretch src.given from (to - from)

-- pieces one after another
abbrev pub total : List Piece → ℕ
total [] = 0
total (p ∷ ps) = piece_len p + total ps

abbrev pub all_samples : Sources → List Piece → List ℤ
all_samples src [] = []
all_samples src (p ∷ ps) = samples_of src p ++ all_samples src ps

-- this many samples of a piece, from a place within it on
abbrev pub part_of : ℕ → ℕ → Piece → Piece
part_of skip n (Old b from to) = Old b (from + skip) (from + skip + n)
part_of skip n (Scaled b from to gain) = Scaled b (from + skip) (from + skip + n) gain
part_of skip n (Zero len) = Zero n
part_of skip n (Given from to) = Given (from + skip) (from + skip + n)

-- a whole block as a piece
abbrev pub whole : BlockRef → Piece
whole b = Old b 0 b.len

-- a piece's part lies within its block, which is not empty
abbrev pub IsValid : Piece → Type 0
IsValid (Old b from to) = (from ≤ to) × (to ≤ b.len) × (0 < b.len)
IsValid (Scaled b from to gain) = (from ≤ to) × (to ≤ b.len) × (0 < b.len)
IsValid (Zero len) = Unit {0}
IsValid (Given from to) = from ≤ to

abbrev pub AllValid : List Piece → Type 0
AllValid [] = Unit {0}
AllValid (p ∷ ps) = IsValid p × AllValid ps

-- the blocks that the pieces name have at most m samples each
abbrev pub Fits : ℕ → Piece → Type 0
Fits m (Old b from to) = b.len ≤ m
Fits m (Scaled b from to gain) = b.len ≤ m
Fits m (Zero len) = Unit {0}
Fits m (Given from to) = Unit {0}

abbrev pub AllFit : ℕ → List Piece → Type 0
AllFit m [] = Unit {0}
AllFit m (p ∷ ps) = Fits m p × AllFit m ps
