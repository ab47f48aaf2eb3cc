-- Each track that a record or a point of a header says has at least 9 bytes there.
use Rattle.record_body.proofs.Common.{◌≡◌, ℕ, zero, suc, ◌+◌, ◌*◌, ◌≤◌, ◌==◌, Bool, true, false, List, [], ◌∷◌, length}
use Rattle.record_body.proofs.Common.{length-append, None, Some, ap, arith, slice_index, eq-eqb, length-map}
use Rattle.record_body.proofs.Common.{flat_map, field, first_failed, Track, Edit, Undo, Redo, Purge, HaveDiff}
use Rattle.record_body.proofs.Common.{all_diff_at, fresh_at, mark_at, diff_size, all_diff_tests}
use Rattle.record_body.proofs.Common.{delta_tests, IsNextIn, Saved, point_bytes}
use Rattle.record_body.proofs.Common.{Body, Before, Limits, SaysBody, head_tests, limits_at, track_count, track_size}
use Rattle.record_body.proofs.Common.{spelling, track_bytes, all_pass, Pass}
use Rattle.std.specs.{Prelude.if◌then◌else◌}
use Rattle.record_body.specs.{Lengths.body_tracks}
use Rattle.record_body.proofs.{Measured.delta_size, Passing.pass_parts, DiffTracks.known_mark}

-- ---- written out whole

tracks_nine : (ts : List Track) → 9 * length ts ≤ length (flat_map track_bytes ts)
tracks_nine [] = omega arith
tracks_nine (t ∷ ts) = omega (arith, length-append (track_bytes t) (flat_map track_bytes ts), tracks_nine ts)

spelled_nine : (body : Body) → 9 * length (body_tracks body) ≤ length (spelling body)
spelled_nine (Edit tag next_block next_track point) = omega (arith, tracks_nine point)
spelled_nine Undo = omega arith
spelled_nine Redo = omega arith
spelled_nine (Purge n) = omega arith

-- ---- told by the current point

diff_least : (at : ℕ) (bytes : List ℕ) → 9 ≤ diff_size at bytes
diff_least at bytes = by (mark_at at bytes == 0) (mark_at at bytes == 1)
  where
    by : (same whole : Bool)
        → 9 ≤ (if same then 9 else if whole then 1 + track_size (at + 1) bytes else 17 + 12 * fresh_at at bytes)
    by true whole = omega arith
    by false true = omega arith
    by false false = omega arith

diff_nine : (l : Limits) (current : List Track) (n from at : ℕ) (bytes : List ℕ)
    → Pass (all_diff_tests l current n from at bytes) → HaveDiff n at bytes → at ≤ length bytes
    → at + 9 * n ≤ length bytes
diff_nine l current zero from at bytes pass have within = omega (arith, within)
diff_nine l current (suc n) from at bytes pass have within =
    search (
      arith,
      diff_nine l current n (field at 8 bytes + 1) (at + diff_size at bytes) bytes,
      pass_parts,
      known_mark,
      diff_least,
    )

all_diff_many : (current : List Track) (n at : ℕ) (bytes : List ℕ) → length (all_diff_at current n at bytes) ≡ n
all_diff_many current zero at bytes = omega arith
all_diff_many current (suc n) at bytes = search (arith, all_diff_many current n (at + diff_size at bytes) bytes)

said_nine : (m : ℕ) (b : Before) (current : List Track) (bytes : List ℕ) (body : Body)
    → first_failed (delta_tests m b current bytes) ≡ None → SaysBody current bytes body
    → 9 * length (body_tracks body) ≤ length bytes
said_nine m b current bytes (Edit tag next_block next_track point) none says =
    search (
      arith,
      all_pass (delta_tests m b current bytes) none,
      eq-eqb (slice_index bytes 0) 5 says.0,
      pass_parts (head_tests b bytes) (all_diff_tests (limits_at m b bytes) current (track_count bytes) 0 29 bytes),
      delta_size bytes says.0,
      length-map point Some,
      all_diff_many current (track_count bytes) 29 bytes,
      diff_nine (limits_at m b bytes) current (track_count bytes) 0 29 bytes,
    )
said_nine m b current bytes Undo none says = omega arith
said_nine m b current bytes Redo none says = omega arith
said_nine m b current bytes (Purge n) none says = omega arith

-- ---- a record that may come next, and a point of a header

pub next_nine : (version m : ℕ) (k : Saved) (bytes : List ℕ) (body : Body) → IsNextIn version m k bytes body
    → 9 * length (body_tracks body) ≤ length bytes
next_nine zero m k bytes body next = omega (arith, ap length next.spelled, spelled_nine body)
next_nine (suc zero) m k bytes body next = omega (arith, ap length next.spelled, spelled_nine body)
next_nine (suc (suc version)) m k bytes body next = search (arith, said_nine)

-- 8 bytes of its tag and 4 of its count of tracks stand before them
pub point_nine : (p : List Track × ℕ) → 12 + 9 * length p.0 ≤ length (point_bytes p)
point_nine p = omega (arith, tracks_nine p.0)
