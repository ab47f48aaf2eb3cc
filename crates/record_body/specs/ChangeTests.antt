-- The tests of a body of kind 5, in the order of their places, by the current point.
use Rattle.std.specs.Prelude.{ℕ, zero, suc, ◌+◌, ◌-◌, ◌==◌, ◌&&◌, nat_lt, Bool, true, false, min, max, None, Some}
use Rattle.std.specs.Prelude.{Option, List, [], ◌∷◌, ◌++◌, length, take, slice_index, if◌then◌else◌}
use Rattle.pcm_base.specs.declared.limits.TheConstants.{COUNTER_LIMIT, MAX_GAIN}
use Rattle.pcm_base.specs.{Blocks.blocks_len, declared.block.BlockRef.BlockRef}
use Rattle.project_journal.specs.{Fields.field, declared.fault.Damaged.Damaged}
use Rattle.record_body.specs.ChangePlaces.{mark_at, gone_at, fresh_at, diff_size, asked_delta}
use Rattle.record_body.specs.FirstFault.{least, most, place, least_len, blocks_tests, clips_tests, head_tests}
use Rattle.record_body.specs.FirstFault.{limits_at}
use Rattle.record_body.specs.{declared.kinds.TheConstants.UNDO_KIND, declared.kinds.TheConstants.DELTA_KIND}
use Rattle.record_body.specs.{declared.limits.Before.Before, declared.limits.Limits.Limits, Changes.last_blocks}
use Rattle.record_body.specs.{Changes.last_start, Places.clip_count, Places.track_count}
use Rattle.project_state.specs.{declared.track.Track.Track, Tracks.track_of}

-- an id that was given, above that of the track before
abbrev pub id_tests : Limits → ℕ → ℕ → List ℕ → List Damaged
id_tests l from at bytes =
    least (place l.base at) 1 (field at 8 bytes)
    ∷ least (place l.base at) from (field at 8 bytes)
    ∷ most (place l.base at) (l.next_track - 1) (field at 8 bytes)
    ∷ []

-- a track that the current point lacks has to be written out, and so has one without clips if it changes
abbrev pub mark_want : Option Track → ℕ → ℕ
mark_want None mark = 1
mark_want (Some old) mark = if (mark == 2) && (length old.layout == 0) then 1 else mark

abbrev pub mark_tests : ℕ → ℕ → ℕ → List Damaged
mark_tests at want mark = most at 2 mark ∷ record { at = at; want = want; have = mark } ∷ []

-- gain, side and mute
abbrev pub how_tests : Limits → ℕ → List ℕ → List Damaged
how_tests l at bytes =
    most (place l.base (at + 8)) MAX_GAIN (field (at + 8) 4 bytes)
    ∷ most (place l.base (at + 12)) 2 (slice_index bytes (at + 12))
    ∷ most (place l.base (at + 13)) 1 (slice_index bytes (at + 13))
    ∷ []

-- and the clips
abbrev pub whole_tests : Limits → ℕ → List ℕ → List Damaged
whole_tests l at bytes = how_tests l at bytes ++ clips_tests l (clip_count at bytes) 0 (at + 18) bytes

-- one block that is less than half full
abbrev pub is_lone : ℕ → List BlockRef → Bool
is_lone m [] = false
is_lone m (b ∷ []) = nat_lt b.len (least_len m true)
is_lone m (b ∷ c ∷ bs) = false

-- No more blocks go than there are, and one that is less than half full goes where others come; and one is left.
abbrev pub tail_head_tests : Limits → List BlockRef → ℕ → List ℕ → List Damaged
tail_head_tests l olds at bytes =
    most (place l.base (at + 9)) (length olds) (gone_at at bytes)
    ∷ least (place l.base (at + 9)) (if is_lone l.block_size olds && nat_lt 0 (fresh_at at bytes) then 1 else 0)
    (gone_at at bytes)
    ∷ least (place l.base (at + 13)) (if gone_at at bytes == length olds then 1 else 0) (fresh_at at bytes)
    ∷ []

-- the blocks that are kept
abbrev pub kept_blocks : List BlockRef → ℕ → List BlockRef
kept_blocks olds gone = take (length olds - gone) olds

abbrev pub tail_tests : Limits → ℕ → List BlockRef → ℕ → List ℕ → List Damaged
tail_tests l start olds at bytes = tail_head_tests l olds at bytes
    ++ blocks_tests l (nat_lt 1 (length olds - gone_at at bytes + fresh_at at bytes)) (fresh_at at bytes)
    (start + blocks_len (kept_blocks olds (gone_at at bytes))) (at + 17) bytes

-- by the track of the current point with the same id
abbrev pub marked_tests : Limits → Option Track → ℕ → List ℕ → List Damaged
marked_tests l None at bytes = whole_tests l (at + 1) bytes
marked_tests l (Some old) at bytes =
    if mark_at at bytes == 0 then []
    else if mark_at at bytes == 1 then whole_tests l (at + 1) bytes
    else tail_tests l (last_start old.layout) (last_blocks old.layout) at bytes

abbrev pub change_tests : Limits → Option Track → ℕ → List ℕ → List Damaged
change_tests l old at bytes =
    mark_tests (place l.base (at + 8)) (mark_want old (mark_at at bytes)) (mark_at at bytes)
    ++ marked_tests l old at bytes

abbrev pub diff_tests : Limits → List Track → ℕ → ℕ → List ℕ → List Damaged
diff_tests l current from at bytes =
    id_tests l from at bytes ++ change_tests l (track_of (field at 8 bytes) current) at bytes

abbrev pub all_diff_tests : Limits → List Track → ℕ → ℕ → ℕ → List ℕ → List Damaged
all_diff_tests l current zero from at bytes = []
all_diff_tests l current (suc count) from at bytes = diff_tests l current from at bytes
    ++ all_diff_tests l current count (field at 8 bytes + 1) (at + diff_size at bytes) bytes

abbrev pub delta_edit_tests : ℕ → Before → List Track → List ℕ → List Damaged
delta_edit_tests m b current bytes =
    head_tests b bytes ++ all_diff_tests (limits_at m b bytes) current (track_count bytes) 0 29 bytes

abbrev pub delta_length_test : Before → List ℕ → Damaged
delta_length_test b bytes = record { at = b.at - 4; want = asked_delta bytes; have = length bytes }

-- all kinds but the first
abbrev pub delta_kind_test : Before → List ℕ → Damaged
delta_kind_test b bytes =
    record { at = b.at; want = max UNDO_KIND (min DELTA_KIND (slice_index bytes 0)); have = slice_index bytes 0 }

-- the record does not raise the number of commits above 2^62, which is reported at the kind
abbrev pub commit_test : Before → Damaged
commit_test b = least b.at 1 (COUNTER_LIMIT - b.commits)

-- all tests of a body, by the current point
abbrev pub delta_tests : ℕ → Before → List Track → List ℕ → List Damaged
delta_tests m b current bytes = delta_length_test b bytes ∷ delta_kind_test b bytes ∷ commit_test b
    ∷ (if slice_index bytes 0 == DELTA_KIND then delta_edit_tests m b current bytes else [])
