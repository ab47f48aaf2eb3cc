-- The rule by which the pieces of a clip are laid out in blocks of at most m samples, as a property of the result.
--
-- A piece is full where it is a whole block of m / 2 to m samples. The pieces between the full ones are runs. A run
-- of fewer than m / 2 samples takes in the full piece directly before it; where it begins the clip, the one directly
-- after it. A full piece that no run takes in keeps its block. What lies between the kept blocks is cut anew.
use Rattle.std.specs.Prelude.{◌≡◌, ℕ, ◌+◌, ◌-◌, ◌*◌, ◌/◌, ◌%◌, ◌<◌, ◌≤◌, nat_lt, nat_le, ◌==◌, ◌&&◌, not, Bool, true}
use Rattle.std.specs.Prelude.{false, List, [], ◌∷◌, ◌++◌, replicate, if◌then◌else◌}
use Rattle.std.specs.Int.{div_ceil}
use Rattle.pcm_base.specs.declared.piece.Piece.TheVariants.{Old, Scaled, Zero, Given}
use Rattle.pcm_base.specs.Pieces.{piece_len, total, whole}
use Rattle.pcm_base.specs.{declared.block.BlockRef.BlockRef, declared.piece.Piece.Piece}

-- a block that is kept, or a new one of this many samples
pub data Part : Type 0 where
  Kept : BlockRef → Part
  Made : ℕ → Part

abbrev pub part_len : Part → ℕ
part_len (Kept b) = b.len
part_len (Made n) = n

abbrev pub is_whole : Piece → Bool
is_whole (Old b from to) = (from == 0) && (to == b.len)
is_whole (Scaled b from to gain) = false
is_whole (Zero len) = false
is_whole (Given from to) = false

-- a whole block of m / 2 to m samples
unfoldable pub is_full : ℕ → Piece → Bool
is_full m p = is_whole p && nat_le m (2 * piece_len p) && nat_le (piece_len p) m

-- whether none of the pieces is full
abbrev pub none_full : ℕ → List Piece → Bool
none_full m [] = true
none_full m (p ∷ ps) = not (is_full m p) && none_full m ps

-- the samples before the first full piece
abbrev pub front : ℕ → List Piece → ℕ
front m [] = 0
front m (p ∷ ps) = if is_full m p then 0 else piece_len p + front m ps

-- a run of t samples takes in a neighbour
unfoldable pub is_short : ℕ → ℕ → Bool
is_short m t = nat_lt 0 t && nat_lt (2 * t) m

-- whether the run directly before a full piece takes it in: it begins the clip, and is short
abbrev pub taken_by_first : ℕ → List Piece → Bool
taken_by_first m before = none_full m before && is_short m (total before)

-- whether a piece between others keeps its block
abbrev pub is_kept : ℕ → List Piece → Piece → List Piece → Bool
is_kept m before p after = is_full m p && not (taken_by_first m before) && not (is_short m (front m after))

-- those of some pieces that keep their blocks, with the place of the first sample, where others come before
abbrev pub kept_from : ℕ → List Piece → List Piece → List (ℕ × Piece)
kept_from m before [] = []
kept_from m before (p ∷ ps) =
    if is_kept m before p ps then (total before, p)
    ∷ kept_from m (before ++ p ∷ []) ps else kept_from m (before ++ p ∷ []) ps

-- those of a clip: one whole block alone is kept, whatever its size
abbrev pub kept_pieces : ℕ → List Piece → List (ℕ × Piece)
kept_pieces m [] = []
kept_pieces m (p ∷ []) = if is_whole p then (0, p) ∷ [] else []
kept_pieces m (p ∷ q ∷ ps) = kept_from m [] (p ∷ q ∷ ps)

-- the kept blocks of a result, with the place of the first sample, counted from a place on
abbrev pub kept_parts : ℕ → List Part → List (ℕ × Piece)
kept_parts at [] = []
kept_parts at (Kept b ∷ ps) = (at, whole b) ∷ kept_parts (at + b.len) ps
kept_parts at (Made n ∷ ps) = kept_parts (at + n) ps

-- the sizes of the new blocks for t samples: as few as hold them, as even as can be, the larger ones first
unfoldable pub block_sizes : ℕ → ℕ → List ℕ
block_sizes m t = let n = div_ceil t m in replicate (t % n) (t / n + 1) ++ replicate (n - t % n) (t / n)

-- some sizes together
abbrev pub added : List ℕ → ℕ
added [] = 0
added (n ∷ ns) = n + added ns

-- new blocks that follow each other, those before the first part being given, have these sizes
abbrev pub AreRuns : ℕ → List ℕ → List Part → Type 0
AreRuns m sizes [] = sizes ≡ block_sizes m (added sizes)
AreRuns m sizes (Kept b ∷ ps) = (sizes ≡ block_sizes m (added sizes)) × AreRuns m [] ps
AreRuns m sizes (Made n ∷ ps) = AreRuns m (sizes ++ n ∷ []) ps

-- a clip of pieces, none of them empty, is laid out in these parts
pub record IsLaidOut (m : ℕ) (ps : List Piece) (parts : List Part) : Type 0 where
  pub kept_blocks : kept_parts 0 parts ≡ kept_pieces m ps
  pub new_blocks : AreRuns m [] parts

abbrev pub is_not_empty : Piece → Bool
is_not_empty p = nat_lt 0 (piece_len p)

-- how many new blocks there are
abbrev pub made_count : List Part → ℕ
made_count [] = 0
made_count (Kept b ∷ ps) = made_count ps
made_count (Made n ∷ ps) = 1 + made_count ps

-- how many pieces are not full
abbrev pub unfull : ℕ → List Piece → ℕ
unfull m [] = 0
unfull m (p ∷ ps) = (if is_full m p then 0 else 1) + unfull m ps

-- the same of a clip, where one whole block alone is as good
abbrev pub rough : ℕ → List Piece → ℕ
rough m [] = 0
rough m (p ∷ []) = if is_whole p then 0 else 1
rough m (p ∷ q ∷ ps) = unfull m (p ∷ q ∷ ps)

-- no piece has more samples than a block may have, and none is empty
abbrev pub AllShort : ℕ → List Piece → Type 0
AllShort m [] = Unit {0}
AllShort m (p ∷ ps) = ((0 < piece_len p) × (piece_len p ≤ m)) × AllShort m ps
