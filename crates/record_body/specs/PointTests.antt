-- The tests of a header's point, in the order of their places: its tag, and its tracks.
use Rattle.std.specs.Prelude.{ℕ, ◌-◌, List, [], ◌∷◌, ◌++◌, length}
use Rattle.pcm_base.specs.declared.limits.TheConstants.{MAX_TRACKS}
use Rattle.project_journal.specs.{Fields.field, declared.fault.Damaged.Damaged}
use Rattle.record_body.specs.FirstFault.{most, place, tracks_tests}
use Rattle.record_body.specs.Widths.{reach, tracks_widths}
use Rattle.record_body.specs.{declared.limits.Before.Before, declared.limits.Limits.Limits, Places.tracks_at}
use Rattle.project_state.specs.declared.track.Track.{Track}

-- how many tracks a point has
abbrev pub point_count : List ℕ → ℕ
point_count bytes = field 8 4 bytes

-- what the bytes say: the tracks, and the tag in front of them
abbrev pub point_at : List ℕ → List Track × ℕ
point_at bytes = (tracks_at (point_count bytes) 12 bytes, field 0 8 bytes)

-- tag, how many tracks, and the tracks
abbrev pub point_widths : List ℕ → List ℕ
point_widths bytes = 8 ∷ 4 ∷ tracks_widths (point_count bytes) 12 bytes

-- the length that the fields ask of a point
abbrev pub asked_point : List ℕ → ℕ
asked_point bytes = reach (length bytes) 0 (point_widths bytes)

-- The length stands in the 4 bytes before the point.
abbrev pub point_length_test : Before → List ℕ → Damaged
point_length_test b bytes = record { at = b.at - 4; want = asked_point bytes; have = length bytes }

-- a tag of an earlier record, and at most 64 tracks
abbrev pub point_head_tests : Before → List ℕ → List Damaged
point_head_tests b bytes =
    most (place b.at 0) b.commits (field 0 8 bytes) ∷ most (place b.at 8) MAX_TRACKS (point_count bytes) ∷ []

-- the header's bounds are those of its points
abbrev pub point_limits : ℕ → Before → Limits
point_limits m b = record { base = b.at; block_size = m; next_block = b.next_block; next_track = b.next_track }

abbrev pub point_field_tests : ℕ → Before → List ℕ → List Damaged
point_field_tests m b bytes = point_head_tests b bytes ++ tracks_tests (point_limits m b) (point_count bytes) 0 12 bytes

-- all tests of a header's point, whose blocks have at most m samples
abbrev pub point_tests : ℕ → Before → List ℕ → List Damaged
point_tests m b bytes = point_length_test b bytes ∷ point_field_tests m b bytes
