-- How many samples the new blocks of a clip have room for at most, counted from its pieces alone.
--
-- A run of t samples is cut into as few blocks as hold it, which have room for fewer than t + m. Where the run takes in
-- a full piece, before it or after it, that are at most m samples more.
use Rattle.std.specs.Prelude.{ℕ, ◌+◌, ◌*◌, List, [], ◌∷◌, if◌then◌else◌}
use Rattle.pcm_base.specs.{declared.piece.Piece.Piece, Pieces.piece_len}
use Rattle.block_sequence.specs.Fuse.{is_whole, is_full}

-- where a piece stands: it begins its clip, or a full piece, or one that is not full, is directly before it
pub data Stand : Type 0 where
  First : Stand
  Behind : Stand
  Within : Stand

-- what a run that begins there may need besides its own samples
abbrev pub spare : ℕ → Stand → ℕ
spare m First = m
spare m Behind = 2 * m
spare m Within = 0

-- what a run that ends there may take in
abbrev pub taken : ℕ → Stand → ℕ
taken m First = 0
taken m Behind = 0
taken m Within = m

abbrev pub room : ℕ → Stand → List Piece → ℕ
room m s [] = 0
room m s (p ∷ ps) = if is_full m p then taken m s + room m Behind ps else piece_len p + spare m s + room m Within ps

-- the same of a clip: one whole block alone is kept
abbrev pub clip_room : ℕ → List Piece → ℕ
clip_room m [] = 0
clip_room m (p ∷ []) = if is_whole p then 0 else room m First (p ∷ [])
clip_room m (p ∷ q ∷ ps) = room m First (p ∷ q ∷ ps)
