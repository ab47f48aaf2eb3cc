-- The same layout as one pass from left to right, which the private functions follow; what it keeps and makes is in
-- Fuse.
use Rattle.std.specs.Prelude.{ℕ, ◌+◌, ◌&&◌, not, List, [], ◌∷◌, ◌++◌, map, filter, if◌then◌else◌}
use Rattle.pcm_base.specs.declared.piece.Piece.TheVariants.{Old, Scaled, Zero, Given}
use Rattle.pcm_base.specs.{declared.piece.Piece.Piece, Pieces.piece_len}
use Rattle.block_sequence.specs.Fuse.{Part, Kept, Made, is_whole, is_full, is_short, is_not_empty, front, block_sizes}

abbrev pub kept_of : Piece → List Part
kept_of (Old b from to) = Kept b ∷ []
kept_of (Scaled b from to gain) = []
kept_of (Zero len) = []
kept_of (Given from to) = []

unfoldable pub run_parts : ℕ → ℕ → List Part
run_parts m t = map Made (block_sizes m t)

-- a run of t samples stands before some pieces: a full one is kept, and ends the run, unless a short run follows it
abbrev pub laid : ℕ → ℕ → List Piece → List Part
laid m t [] = run_parts m t
laid m t (p ∷ ps) =
    if is_full m p && not (is_short m (front m ps)) then run_parts m t ++ kept_of p
    ++ laid m 0 ps else laid m (t + piece_len p) ps

-- the run that begins the clip takes in the first full piece
abbrev pub laid_first : ℕ → ℕ → List Piece → List Part
laid_first m t [] = run_parts m t
laid_first m t (p ∷ ps) = if is_full m p then laid m (t + piece_len p) ps else laid_first m (t + piece_len p) ps

abbrev pub laid_clip : ℕ → List Piece → List Part
laid_clip m ps = if is_short m (front m ps) then laid_first m 0 ps else laid m 0 ps

-- one whole block alone is kept
abbrev pub laid_apart : ℕ → List Piece → List Part
laid_apart m [] = laid_clip m []
laid_apart m (p ∷ []) = if is_whole p then kept_of p else laid_clip m (p ∷ [])
laid_apart m (p ∷ q ∷ ps) = laid_clip m (p ∷ q ∷ ps)

-- the parts of a clip
abbrev pub fused : ℕ → List Piece → List Part
fused m ps = laid_apart m (filter is_not_empty ps)
