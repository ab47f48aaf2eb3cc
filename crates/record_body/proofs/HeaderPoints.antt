-- A header's point whose tests pass is valid, and its bytes are its spelling. A valid one passes them.
use Rattle.record_body.proofs.Common.{◌≡◌, ℕ, ◌+◌, ◌^◌, ◌≤◌, ◌<◌, None, Result, List, [], ◌++◌, length, drop, refl, sym}
use Rattle.record_body.proofs.Common.{ap, subst, ◌∙◌, arith, append-nil, flat_map, little_bytes, field, first_failed}
use Rattle.record_body.proofs.Common.{asked_point, point_at, point_count, point_head_tests, point_length_test}
use Rattle.record_body.proofs.Common.{point_limits, point_widths, BadBody, Before, Finds, tracks_tests, point_bytes}
use Rattle.record_body.proofs.Common.{tracks_at, tracks_size, IsValidTagged, track_bytes, total_width, Track}
use Rattle.record_body.proofs.Common.{AreUnnumbered, IsBytes, all_pass, Pass}
use Rattle.record_body.specs.PointTests.{point_field_tests, point_tests}
use Rattle.record_body.proofs.FieldsBack.{NoneFails, both_pass, most_passes, no_test, number_there, passes, past}
use Rattle.record_body.proofs.Reaching.{reach_all, reach_whole, sum_tracks}
use Rattle.record_body.proofs.Steps.{finds_weaker}
use Rattle.record_body.proofs.ValidBodies.{valid_tracks}
use Rattle.record_body.proofs.Spelled.{ends, field_stands, joined, tracks_stand, whole}
use Rattle.record_body.proofs.TracksBack.{HasTracks, has_tracks}
use Rattle.record_body.proofs.{ClipsBack.AreNarrow, Passing.pass_parts, Sizes.length-tracks_at, ValidBounds.tracks_good}

pub sum_point : (bytes : List ℕ) → total_width (point_widths bytes) ≡ 12 + tracks_size (point_count bytes) 12 bytes
sum_point bytes = omega (arith, sum_tracks (point_count bytes) 12 bytes)

-- a point that is as long as is asked has all its fields
pub point_size : (bytes : List ℕ) → asked_point bytes ≡ length bytes
    → 12 + tracks_size (point_count bytes) 12 bytes ≡ length bytes
point_size bytes e = search (arith, reach_all, sum_point)

pub few_point : (b : Before) (bytes : List ℕ) → Pass (point_head_tests b bytes) → point_count bytes ≤ 64
few_point b bytes pass = omega (arith, pass.1.0)

point_valid : (m : ℕ) (b : Before) (bytes : List ℕ) → Pass (point_field_tests m b bytes)
    → IsValidTagged m b.next_block b.next_track b.commits (point_at bytes)
point_valid m b bytes pass =
    search (
      arith,
      pass_parts (point_head_tests b bytes) (tracks_tests (point_limits m b) (point_count bytes) 0 12 bytes) pass,
      valid_tracks (point_limits m b) (point_count bytes) 1 0 12 bytes,
      few_point b bytes,
      length-tracks_at bytes (point_count bytes) 12,
    )

point_spelled : (m : ℕ) (b : Before) (bytes : List ℕ) → IsBytes bytes → asked_point bytes ≡ length bytes
    → Pass (point_field_tests m b bytes) → point_bytes (point_at bytes) ≡ bytes
point_spelled m b bytes fit asked pass =
    let n = point_count bytes in
    let size = point_size bytes asked in
    let tests = (pass_parts (point_head_tests b bytes) (tracks_tests (point_limits m b) n 0 12 bytes) pass).1 in
    let tag = field_stands bytes fit 0 8 (field 0 8 bytes) (omega (arith, size)) refl in
    let count = field_stands bytes fit 8 4 (length (tracks_at n 12 bytes)) (omega (arith, size))
    (length-tracks_at bytes n 12) in
    let tracks = tracks_stand bytes fit (point_limits m b) n 0 12 tests (omega (arith, size)) in
    whole bytes (point_bytes (point_at bytes))
    (ends bytes (length bytes) size (joined bytes tag (joined bytes count tracks)))

-- what was found where all tests pass
pub point_found : (m : ℕ) (b : Before) (bytes : List ℕ) → IsBytes bytes → (r : Result (List Track × ℕ) BadBody)
    → Finds (point_tests m b bytes) (λ p. p ≡ point_at bytes) r
    → Finds (point_tests m b bytes) (λ p. (p ≡ point_at bytes) × (point_bytes p ≡ bytes)
    × IsValidTagged m b.next_block b.next_track b.commits p) r
point_found m b bytes fit r = finds_weaker (point_tests m b bytes) (λ p. p ≡ point_at bytes) (λ p. (p ≡ point_at bytes)
    × (point_bytes p ≡ bytes) × IsValidTagged m b.next_block b.next_track b.commits p) r (λ p none is.
    let pass = all_pass (point_tests m b bytes) none in (
      is,
      ap point_bytes is ∙ point_spelled m b bytes fit pass.0 pass.1,
      subst (IsValidTagged m b.next_block b.next_track b.commits) (sym is) (point_valid m b bytes pass.1),
    ))

record HasPoint (p : List Track × ℕ) (bytes : List ℕ) : Type 0 where
  tagged : field 0 8 bytes ≡ p.1
  count : point_count bytes ≡ length p.0
  tracks : drop 12 bytes ≡ flat_map track_bytes p.0 ++ []

has_point : (m block track commit : ℕ) (p : List Track × ℕ) (bytes : List ℕ) → commit ≤ 2 ^ 62
    → IsValidTagged m block track commit p → bytes ≡ point_bytes p → HasPoint p bytes
has_point m block track commit p bytes most valid e =
    let all = flat_map track_bytes p.0 in
    let counted = little_bytes 4 (length p.0) ++ all in
    search (
      arith,
      past 0 8 bytes (little_bytes 8 p.1) counted,
      past 8 12 bytes (little_bytes 4 (length p.0)) all,
      number_there 8 p.1 0 bytes counted,
      number_there 4 (length p.0) 8 bytes all,
      append-nil all,
    )

-- The bytes of a valid point.
module _ (m : ℕ) (b : Before) (p : List Track × ℕ) (large : 4 ≤ m) (small : m < 2 ^ 32)
    (blocks_fit : b.next_block ≤ 2 ^ 62) (tracks_fit : b.next_track ≤ 2 ^ 62) (commits_fit : b.commits ≤ 2 ^ 62)
    (valid : IsValidTagged m b.next_block b.next_track b.commits p) (none : AreUnnumbered p.0) where
  there : HasPoint p (point_bytes p)
  there = has_point m b.next_block b.next_track b.commits p (point_bytes p) commits_fit valid refl

  said : HasTracks (point_limits m b) 0 p.0 12 (point_bytes p)
  said =
      let l = point_limits m b in
      let narrow : AreNarrow l = record { ids = blocks_fit; tracks = tracks_fit; lens = small } in
      has_tracks l 0 p.0 12 (point_bytes p) [] narrow
      (tracks_good l 0 1 p.0 large (omega arith) (omega arith) valid.0.rising valid.0.valid none) there.tracks

  -- They pass their tests.
  pub point_back : first_failed (point_tests m b (point_bytes p)) ≡ None
  point_back =
      let bytes = point_bytes p in
      let counted = subst (λ (n : ℕ). NoneFails (tracks_tests (point_limits m b) n 0 12 bytes)) (sym there.count)
      said.passes in
      let size = ap (λ (n : ℕ). tracks_size n 12 bytes) there.count ∙ said.size in
      let long : length bytes ≡ 12 + length (flat_map track_bytes p.0) = omega arith in
      let whole : 0 + total_width (point_widths bytes) ≡ length bytes = omega (arith, sum_point bytes, size, long) in
      let asked : asked_point bytes ≡ length bytes =
      reach_whole (length bytes) 0 (point_widths bytes) (omega (arith, whole)) ∙ whole in
      let head : NoneFails (point_head_tests b bytes) =
      most_passes _ _ _ _ _ there.tagged valid.1 (most_passes _ _ _ _ _ there.count valid.0.few no_test) in
      (passes (point_length_test b bytes) _ asked (both_pass (point_head_tests b bytes) _ head counted)).none

  -- They say that point.
  pub point_is : point_at (point_bytes p) ≡ p
  point_is =
      let all : tracks_at (point_count (point_bytes p)) 12 (point_bytes p) ≡ p.0 =
      ap (λ (n : ℕ). tracks_at n 12 (point_bytes p)) there.count ∙ said.tracks in
      λ i. (all i, there.tagged i)
