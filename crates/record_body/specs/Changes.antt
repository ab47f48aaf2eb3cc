-- How a record tells a track of an edit by the current point: as it is there, written out, or with the last blocks of
-- its last clip replaced.
use Rattle.std.specs.Prelude.{ℕ, ◌-◌, ◌==◌, ◌&&◌, nat_lt, Bool, true, false, if◌then◌else◌, List, [], ◌∷◌, ◌++◌}
use Rattle.std.specs.Prelude.{length, take, drop, Option, Some, None}
use Rattle.std.specs.{Option.option_map, List.flat_map}
use Rattle.byteorder.specs.Endian.{little_bytes}
use Rattle.pcm_base.specs.declared.block.BlockRef.{BlockRef}
use Rattle.block_sequence.specs.Fronts.{common}
use Rattle.clip_track.specs.declared.clips.Clip.{Clip}
use Rattle.project_state.specs.{declared.track.Track.Track, Numbers.unnumbered, Tracks.track_of}
use Rattle.record_body.specs.declared.body.Body.TheVariants.{Edit, Undo, Redo, Purge}
use Rattle.record_body.specs.Spelling.{block_bytes, clip_bytes, side_byte, mute_byte, spelling}
use Rattle.record_body.specs.{declared.body.Body.Body, declared.kinds.TheConstants.DELTA_KIND}

pub data Change : Type 0 where
  Same : Change
  Whole : Track → Change
  -- this number of the last blocks goes, and these come
  Tail : ℕ → List BlockRef → Change

-- ---- which one the writer takes

abbrev pub same_blocks : List BlockRef → List BlockRef → Bool
same_blocks xs ys = (length xs == length ys) && (common xs ys == length xs)

abbrev pub same_clip : Clip → Clip → Bool
same_clip a b = (a.start == b.start) && same_blocks a.blocks b.blocks

abbrev pub same_clips : List Clip → List Clip → Bool
same_clips [] [] = true
same_clips [] (b ∷ ys) = false
same_clips (a ∷ xs) [] = false
same_clips (a ∷ xs) (b ∷ ys) = same_clip a b && same_clips xs ys

-- all clips but the last
abbrev pub front_clips : List Clip → List Clip
front_clips cs = take (length cs - 1) cs

abbrev pub last_blocks : List Clip → List BlockRef
last_blocks [] = []
last_blocks (c ∷ []) = c.blocks
last_blocks (c ∷ d ∷ cs) = last_blocks (d ∷ cs)

abbrev pub last_start : List Clip → ℕ
last_start [] = 0
last_start (c ∷ []) = c.start
last_start (c ∷ d ∷ cs) = last_start (d ∷ cs)

-- the same but for the blocks of the last clip, of which there is one
abbrev pub same_but_last : List Clip → List Clip → Bool
same_but_last xs ys = nat_lt 0 (length xs) && (nat_lt 0 (length ys)
    && ((last_start xs == last_start ys) && same_clips (front_clips xs) (front_clips ys)))

abbrev pub same_settings : Track → Track → Bool
same_settings a b =
    (a.gain == b.gain) && ((side_byte a.side == side_byte b.side) && (mute_byte a.mute == mute_byte b.mute))

-- the last blocks of the first that the second lacks, with the fewest gone
abbrev pub tail_change : List Clip → List Clip → Change
tail_change xs ys = Tail (length (last_blocks xs) - common (last_blocks xs) (last_blocks ys))
    (drop (common (last_blocks xs) (last_blocks ys)) (last_blocks ys))

-- by the track of the current point with the same id
abbrev pub change_of : Option Track → Track → Change
change_of None t = Whole t
change_of (Some old) t =
    if same_settings old t && same_clips old.layout t.layout then Same
    else if same_settings old t && same_but_last old.layout t.layout then tail_change old.layout t.layout
    else Whole t

-- ---- what it makes of the current point

-- the last clip with other blocks
abbrev pub with_last : List BlockRef → List Clip → List Clip
with_last ys [] = []
with_last ys (c ∷ []) = record c { blocks = ys } ∷ []
with_last ys (c ∷ d ∷ cs) = c ∷ with_last ys (d ∷ cs)

abbrev pub tailed : ℕ → List BlockRef → Track → Track
tailed gone ys t = record t {
  number = 0;
  layout = with_last (take (length (last_blocks t.layout) - gone) (last_blocks t.layout) ++ ys) t.layout;
}

-- the track that is meant, where it can be known; its layout has no number
abbrev pub changed : Option Track → Change → Option Track
changed old Same = option_map unnumbered old
changed old (Whole t) = Some (unnumbered t)
changed old (Tail gone ys) = option_map (tailed gone ys) old

-- ---- its bytes

-- gain, side, mute, how many clips, and the clips
abbrev pub heard_bytes : Track → List ℕ
heard_bytes t = little_bytes 4 t.gain
    ++ (side_byte t.side ∷ mute_byte t.mute ∷ (little_bytes 4 (length t.layout) ++ flat_map clip_bytes t.layout))

-- the mark, and what belongs to it
abbrev pub change_bytes : Change → List ℕ
change_bytes Same = 0 ∷ []
change_bytes (Whole t) = 1 ∷ heard_bytes t
change_bytes (Tail gone ys) = 2 ∷ (little_bytes 4 gone ++ (little_bytes 4 (length ys) ++ flat_map block_bytes ys))

-- the id, and how the track is written by the current point
abbrev pub diff_bytes : List Track → Track → List ℕ
diff_bytes current t = little_bytes 8 t.id ++ change_bytes (change_of (track_of t.id current) t)

abbrev pub delta_bytes : List Track → List Track → List ℕ
delta_bytes current ts = little_bytes 4 (length ts) ++ flat_map (diff_bytes current) ts

-- the spelling of a body by the current point: an edit has a kind of its own
abbrev pub delta_spelling : List Track → Body → List ℕ
delta_spelling current (Edit tag next_block next_track point) =
    DELTA_KIND ∷ (little_bytes 8 tag
    ++ (little_bytes 8 next_block ++ (little_bytes 8 next_track ++ delta_bytes current point)))
delta_spelling current Undo = spelling Undo
delta_spelling current Redo = spelling Redo
delta_spelling current (Purge n) = spelling (Purge n)

-- the writer's
abbrev pub spelling_in : ℕ → List Track → Body → List ℕ
spelling_in version current body = if version == 1 then spelling body else delta_spelling current body
