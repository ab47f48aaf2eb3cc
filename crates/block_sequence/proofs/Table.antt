-- Worked rows, computed.
use Rattle.std.proofs.Common.{◌≡◌, refl, [], ◌∷◌, ℕ}
use Rattle.pcm_base.specs.declared.piece.Piece.TheVariants.{Old, Given}
use Rattle.pcm_base.specs.{declared.block.BlockRef.BlockRef, Pieces.whole}
use Rattle.block_sequence.specs.Fuse.{Kept, Made, is_full, is_short, block_sizes}
use Rattle.block_sequence.specs.Laying.{run_parts, fused}

abbrev block : ℕ → ℕ → BlockRef
block id len = record { id = id; len = len }

row_1 : fused 4 (Given 0 5 ∷ []) ≡ Made 3 ∷ Made 2 ∷ []
unfolding is_full is_short block_sizes run_parts
row_1 = refl

row_2 : fused 4 (Old (block 16 3) 0 1 ∷ whole (block 17 2) ∷ []) ≡ Made 3 ∷ []
unfolding is_full is_short block_sizes run_parts
row_2 = refl

row_3 : fused 4 (Old (block 16 3) 0 2 ∷ whole (block 16 3) ∷ whole (block 17 2) ∷ []) ≡ Made 2 ∷ Kept (block 16 3)
    ∷ Kept (block 17 2) ∷ []
unfolding is_full is_short block_sizes run_parts
row_3 = refl

row_4 : fused 4 (whole (block 20 1) ∷ []) ≡ Kept (block 20 1) ∷ []
unfolding is_full is_short block_sizes run_parts
row_4 = refl

row_5 : fused 4 (Old (block 21 3) 0 1 ∷ whole (block 22 4) ∷ Old (block 23 3) 1 2 ∷ []) ≡ Made 3 ∷ Made 3 ∷ []
unfolding is_full is_short block_sizes run_parts
row_5 = refl
