-- Pieces that can be read, and what reading them finds.
use Rattle.std.specs.Prelude.{◌⊎◌, ℕ, ◌≤◌, List, [], ◌∷◌}
use Rattle.disk_model.specs.Disk.{Files, bytes_of}
use Rattle.sample_block.specs.{Spelling.IsBlock, Sources.IsWhole}
use Rattle.pcm_base.specs.declared.piece.Piece.{Piece}
use Rattle.pcm_base.specs.declared.piece.Piece.TheVariants.{Old, Scaled, Zero, Given}
use Rattle.block_store.specs.{declared.fault.BlockFault.BlockFault, Reads.IsFault}

-- a piece is a part of a block that a disk may have, zeros, or a part of this many samples that a command brings
abbrev pub IsReadable : ℕ → Piece → Type 0
IsReadable count (Old b from to) = IsBlock b.id b.len × (from ≤ to) × (to ≤ b.len)
IsReadable count (Scaled b from to gain) = IsBlock b.id b.len × (from ≤ to) × (to ≤ b.len)
IsReadable count (Zero len) = Unit {0}
IsReadable count (Given from to) = (from ≤ to) × (to ≤ count)

abbrev pub AllReadable : ℕ → List Piece → Type 0
AllReadable count [] = Unit {0}
AllReadable count (p ∷ ps) = IsReadable count p × AllReadable count ps

-- the disk has the block that a piece names, whole
abbrev pub IsThere : Files → Piece → Type 0
IsThere files (Old b from to) = IsWhole files b
IsThere files (Scaled b from to gain) = IsWhole files b
IsThere files (Zero len) = Unit {0}
IsThere files (Given from to) = Unit {0}

abbrev pub AllThere : Files → List Piece → Type 0
AllThere files [] = Unit {0}
AllThere files (p ∷ ps) = IsThere files p × AllThere files ps

-- the file of the block that a piece names is not as it has to be, or the disk failed as it was read
abbrev pub IsFaultOf : Files → Piece → BlockFault → Type 0
IsFaultOf files (Old b from to) why = IsFault b.id b.len (bytes_of (files b.id)) why
IsFaultOf files (Scaled b from to gain) why = IsFault b.id b.len (bytes_of (files b.id)) why
IsFaultOf files (Zero len) why = ⊥
IsFaultOf files (Given from to) why = ⊥

-- the same of one of some pieces
abbrev pub IsFaultAmong : Files → List Piece → BlockFault → Type 0
IsFaultAmong files [] why = ⊥
IsFaultAmong files (p ∷ ps) why = IsFaultOf files p why ⊎ IsFaultAmong files ps why
