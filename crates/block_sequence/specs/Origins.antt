-- Where pieces come from: blocks of a list, and this many samples that a command brings.
use Rattle.std.specs.Prelude.{ℕ, ◌≤◌, List, [], ◌∷◌, Contains}
use Rattle.pcm_base.specs.declared.piece.Piece.TheVariants.{Old, Scaled, Zero, Given}
use Rattle.pcm_base.specs.{declared.block.BlockRef.BlockRef, declared.piece.Piece.Piece}
use Rattle.block_sequence.specs.declared.types.Laid.{Laid}
use Rattle.block_sequence.specs.declared.types.Laid.TheVariants.{Keep, Make}

-- the block is one of these, and a part of the command's samples ends within their number
abbrev pub IsFrom : List BlockRef → ℕ → Piece → Type 0
IsFrom blocks count (Old b from to) = Contains blocks b
IsFrom blocks count (Scaled b from to gain) = Contains blocks b
IsFrom blocks count (Zero len) = Unit {0}
IsFrom blocks count (Given from to) = to ≤ count

abbrev pub AllFrom : List BlockRef → ℕ → List Piece → Type 0
AllFrom blocks count [] = Unit {0}
AllFrom blocks count (p ∷ ps) = IsFrom blocks count p × AllFrom blocks count ps

-- the same of what is kept, and of the pieces of what is new
abbrev pub IsLaidFrom : List BlockRef → ℕ → Laid → Type 0
IsLaidFrom blocks count (Keep b) = Contains blocks b
IsLaidFrom blocks count (Make ps len) = AllFrom blocks count ps

abbrev pub AllLaidFrom : List BlockRef → ℕ → List Laid → Type 0
AllLaidFrom blocks count [] = Unit {0}
AllLaidFrom blocks count (l ∷ ls) = IsLaidFrom blocks count l × AllLaidFrom blocks count ls
