-- Where tracks end that are told by the current point.
use Rattle.record_body.proofs.Common.{◌≡◌, ℕ, zero, suc, ◌+◌, ◌≤◌, nat_le, true, List, [], ◌∷◌, ◌++◌}
use Rattle.record_body.proofs.Common.{length, refl, arith, slice_index}
use Rattle.record_body.proofs.Common.{eqb-false, le-leb, mark_at, diff_size, diff_widths, all_diff_widths}
use Rattle.record_body.proofs.Common.{HaveDiff, asked_delta, delta_widths, track_count, total_width, reach}
use Rattle.record_body.proofs.Reaching.{reach_fits, reach_all, sum_clips, sum_blocks, total_width-append}

-- what is known of a mark
known_of : (m : ℕ) → m ≤ 2 → nat_le m 2 ≡ true
known_of m le = le-leb m 2 le

-- a track whose mark is known has its fields
pub sum_diff : (at : ℕ) (bytes : List ℕ) → mark_at at bytes ≤ 2
    → total_width (diff_widths at bytes) ≡ diff_size at bytes
sum_diff at bytes known = search (arith, sum_clips, eqb-false, sum_blocks)

pub rest_known : (n at : ℕ) (bytes : List ℕ) → mark_at at bytes ≤ 2
    → all_diff_widths (suc n) at bytes ≡ diff_widths at bytes ++ all_diff_widths n (at + diff_size at bytes) bytes
rest_known n at bytes known = rw (known_of (mark_at at bytes) known) refl

-- all that are asked for are there
pub have_all : (len n at : ℕ) (bytes : List ℕ) → len ≡ length bytes → reach len at (all_diff_widths n at bytes) ≤ len
    → HaveDiff n at bytes
have_all len zero at bytes is le = tt
have_all len (suc n) at bytes is le =
    search (
      arith,
      have_all len n (at + diff_size at bytes) bytes is,
      reach_all,
      total_width-append,
      sum_diff,
      rest_known,
      reach_fits,
    )

-- what is asked of an edit
pub asked_edit_by : (bytes : List ℕ) → slice_index bytes 0 ≡ 5
    → asked_delta bytes ≡ reach (length bytes) 0 (delta_widths bytes)
asked_edit_by [] e = absurd (omega (arith, e))
asked_edit_by (kind ∷ rest) e = rw e refl

-- an edit that is as long as is asked has all its tracks
pub delta_size : (bytes : List ℕ) → slice_index bytes 0 ≡ 5 → asked_delta bytes ≡ length bytes
    → (29 ≤ length bytes) × HaveDiff (track_count bytes) 29 bytes
delta_size bytes kind e = search (arith, asked_edit_by, reach_all, have_all, reach_fits)
