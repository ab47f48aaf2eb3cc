-- How many samples the new blocks of a strip have room for at most, counted from its items alone.
use Rattle.std.specs.Prelude.{ℕ, ◌+◌, Bool, true, false, ◌&&◌, ◌||◌, List, [], ◌∷◌, ◌++◌, if◌then◌else◌}
use Rattle.pcm_base.specs.{declared.piece.Piece.Piece, Pieces.piece_len}
use Rattle.block_sequence.specs.Fuse.{is_whole, is_full}
use Rattle.block_sequence.specs.Room.{Stand, First, Behind, Within, spare, taken, clip_room}
use Rattle.clip_track.specs.declared.items.Item.TheVariants.{Gap, Sound}
use Rattle.clip_track.specs.{declared.items.Item.Item, Rough.gap_next}

-- whether a piece begins its clip
abbrev pub is_first : Stand → Bool
is_first First = true
is_first Behind = false
is_first Within = false

-- the first piece stands as given, and a gap follows the last item or not
abbrev pub strip_room : ℕ → Stand → Bool → List Item → ℕ
strip_room m s ends [] = 0
strip_room m s ends (Gap n ∷ xs) = strip_room m First ends xs
strip_room m s ends (Sound p ∷ xs) =
    if is_full m p || ((is_first s && gap_next ends xs) && is_whole p) then taken m s + strip_room m Behind ends xs
    else piece_len p + spare m s + strip_room m Within ends xs

-- the same clip by clip, with the pieces of the clip so far
abbrev pub room_from : ℕ → List Piece → List Item → ℕ
room_from m held [] = clip_room m held
room_from m held (Gap n ∷ xs) = clip_room m held + room_from m [] xs
room_from m held (Sound p ∷ xs) = room_from m (held ++ p ∷ []) xs
