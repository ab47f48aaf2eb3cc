-- The tests of a body's fields, in the order of their places, and at one place in the order in which they are reported.
use Rattle.std.specs.Prelude.{◌≡◌, ℕ, zero, suc, ◌+◌, ◌-◌, ◌^◌, ◌/◌, ◌==◌, nat_lt, Bool, min, max, None, Some, List, []}
use Rattle.std.specs.Prelude.{◌∷◌, ◌++◌, length, slice_index, if◌then◌else◌, Result, Ok, Err}
use Rattle.pcm_base.specs.declared.limits.TheConstants.{COUNTER_LIMIT, FIRST_BLOCK, MAX_CELLS, MAX_GAIN, MAX_TRACKS}
use Rattle.project_journal.specs.{Fields.field, Header.first_failed, declared.fault.Damaged.Damaged}
use Rattle.record_body.specs.declared.kinds.TheConstants.{EDIT_KIND, PURGE_KIND}
use Rattle.record_body.specs.Places.{block_count, clip_size, clip_count, clip_end_at, track_size, track_count}
use Rattle.record_body.specs.{declared.limits.Limits.Limits, declared.limits.Before.Before}
use Rattle.record_body.specs.{declared.limits.BadBody.BadBody, Widths.asked_length}
use Rattle.record_body.specs.declared.limits.BadBody.TheVariants as bad

-- A value has to be at least, or at most, a bound. A test fails where the nearest value that it allows is not the one
-- that is there.
abbrev pub least : ℕ → ℕ → ℕ → Damaged
least at bound have = record { at = at; want = max bound have; have = have }

abbrev pub most : ℕ → ℕ → ℕ → Damaged
most at bound have = record { at = at; want = min bound have; have = have }

-- the place in the file of a place in the body
abbrev pub place : ℕ → ℕ → ℕ
place base at = min (base + at) (2 ^ 64 - 1)

-- how many samples a block has at least
abbrev pub least_len : ℕ → Bool → ℕ
least_len m several = if several then (m + 1) / 2 else 0

-- An id that was given, of a block of sound; a length that does not pass the longest track, and is that of a block,
-- half full in a clip of several. This many cells come before the block.
abbrev pub block_tests : Limits → Bool → ℕ → ℕ → List ℕ → List Damaged
block_tests l several before at bytes =
    least (place l.base at) FIRST_BLOCK (field at 8 bytes)
    ∷ most (place l.base at) (l.next_block - 1) (field at 8 bytes)
    ∷ most (place l.base (at + 8)) (MAX_CELLS - before) (field (at + 8) 4 bytes)
    ∷ least (place l.base (at + 8)) 1 (field (at + 8) 4 bytes)
    ∷ most (place l.base (at + 8)) l.block_size (field (at + 8) 4 bytes)
    ∷ least (place l.base (at + 8)) (least_len l.block_size several) (field (at + 8) 4 bytes)
    ∷ []

abbrev pub blocks_tests : Limits → Bool → ℕ → ℕ → ℕ → List ℕ → List Damaged
blocks_tests l several zero before at bytes = []
blocks_tests l several (suc count) before at bytes = block_tests l several before at bytes
    ++ blocks_tests l several count (before + field (at + 8) 4 bytes) (at + 12) bytes

-- a start after the clip before, in reach of the longest track; and at least one block
abbrev pub clip_head_tests : Limits → ℕ → ℕ → List ℕ → List Damaged
clip_head_tests l from at bytes =
    least (place l.base at) from (field at 8 bytes)
    ∷ most (place l.base at) MAX_CELLS (field at 8 bytes)
    ∷ least (place l.base (at + 8)) 1 (block_count at bytes)
    ∷ []

abbrev pub clip_tests : Limits → ℕ → ℕ → List ℕ → List Damaged
clip_tests l from at bytes = clip_head_tests l from at bytes
    ++ blocks_tests l (nat_lt 1 (block_count at bytes)) (block_count at bytes) (field at 8 bytes) (at + 12) bytes

abbrev pub clips_tests : Limits → ℕ → ℕ → ℕ → List ℕ → List Damaged
clips_tests l zero from at bytes = []
clips_tests l (suc count) from at bytes =
    clip_tests l from at bytes ++ clips_tests l count (clip_end_at at bytes + 1) (at + clip_size at bytes) bytes

-- an id that was given, above that of the track before; gain, side and mute
abbrev pub settings_tests : Limits → ℕ → ℕ → List ℕ → List Damaged
settings_tests l from at bytes =
    least (place l.base at) 1 (field at 8 bytes)
    ∷ least (place l.base at) from (field at 8 bytes)
    ∷ most (place l.base at) (l.next_track - 1) (field at 8 bytes)
    ∷ most (place l.base (at + 8)) MAX_GAIN (field (at + 8) 4 bytes)
    ∷ most (place l.base (at + 12)) 2 (slice_index bytes (at + 12))
    ∷ most (place l.base (at + 13)) 1 (slice_index bytes (at + 13))
    ∷ []

abbrev pub track_tests : Limits → ℕ → ℕ → List ℕ → List Damaged
track_tests l from at bytes = settings_tests l from at bytes ++ clips_tests l (clip_count at bytes) 0 (at + 18) bytes

abbrev pub tracks_tests : Limits → ℕ → ℕ → ℕ → List ℕ → List Damaged
tracks_tests l zero from at bytes = []
tracks_tests l (suc count) from at bytes =
    track_tests l from at bytes ++ tracks_tests l count (field at 8 bytes + 1) (at + track_size at bytes) bytes

-- a tag of an earlier record; next block and next track in range, and no lower than before; at most 64 tracks
abbrev pub head_tests : Before → List ℕ → List Damaged
head_tests b bytes =
    most (place b.at 1) b.commits (field 1 8 bytes)
    ∷ least (place b.at 9) FIRST_BLOCK (field 9 8 bytes)
    ∷ most (place b.at 9) COUNTER_LIMIT (field 9 8 bytes)
    ∷ least (place b.at 9) b.next_block (field 9 8 bytes)
    ∷ least (place b.at 17) 1 (field 17 8 bytes)
    ∷ most (place b.at 17) COUNTER_LIMIT (field 17 8 bytes)
    ∷ least (place b.at 17) b.next_track (field 17 8 bytes)
    ∷ most (place b.at 25) MAX_TRACKS (track_count bytes)
    ∷ []

-- the bounds that the fields in front give to the tracks
abbrev pub limits_at : ℕ → Before → List ℕ → Limits
limits_at m b bytes =
    record { base = b.at; block_size = m; next_block = field 9 8 bytes; next_track = field 17 8 bytes }

abbrev pub edit_tests : ℕ → Before → List ℕ → List Damaged
edit_tests m b bytes = head_tests b bytes ++ tracks_tests (limits_at m b bytes) (track_count bytes) 0 29 bytes

-- The length stands in the 4 bytes before the body.
abbrev pub length_test : Before → List ℕ → Damaged
length_test b bytes = record { at = b.at - 4; want = asked_length bytes; have = length bytes }

abbrev pub kind_test : Before → List ℕ → Damaged
kind_test b bytes =
    record { at = b.at; want = max EDIT_KIND (min PURGE_KIND (slice_index bytes 0)); have = slice_index bytes 0 }

-- all tests of a body, whose blocks have at most m samples
abbrev pub body_tests : ℕ → Before → List ℕ → List Damaged
body_tests m b bytes =
    length_test b bytes ∷ kind_test b bytes ∷ (if slice_index bytes 0 == EDIT_KIND then edit_tests m b bytes else [])

-- what a reading that takes no memory answers: such a value where all tests pass, else the first that fails
abbrev pub Tells : {T : Type 0} → List Damaged → (T → Type 0) → Result T Damaged → Type 0
Tells tests P (Ok x) = (first_failed tests ≡ None) × P x
Tells tests P (Err fault) = first_failed tests ≡ Some fault

-- and one that may find no memory
abbrev pub Finds : {T : Type 0} → List Damaged → (T → Type 0) → Result T BadBody → Type 0
Finds tests P (Ok x) = (first_failed tests ≡ None) × P x
Finds tests P (Err (bad.Damaged fault)) = first_failed tests ≡ Some fault
Finds tests P (Err bad.NoMemory) = Unit {0}
