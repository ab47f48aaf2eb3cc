-- The place of a record bears on where its faults are reported alone: its tests pass at any place, or at none.
use Rattle.record_body.proofs.Common.{◌≡◌, ℕ, zero, suc, ◌+◌, ◌-◌, ◌==◌, nat_lt, Bool, inl, inr, List, [], ◌∷◌, ◌++◌}
use Rattle.record_body.proofs.Common.{length, Option, Some, None, refl, slice_index, if◌then◌else◌, cases_Bool, eq-eqb}
use Rattle.record_body.proofs.Common.{blocks_len, BlockRef, field, first_failed, Damaged, last_blocks, last_start}
use Rattle.record_body.proofs.Common.{mark_at, gone_at, fresh_at, diff_size, mark_want, mark_tests, how_tests}
use Rattle.record_body.proofs.Common.{whole_tests, kept_blocks, tail_head_tests, tail_tests, id_tests, marked_tests}
use Rattle.record_body.proofs.Common.{change_tests, diff_tests, all_diff_tests, delta_edit_tests, delta_tests, place}
use Rattle.record_body.proofs.Common.{block_tests, blocks_tests, clip_head_tests, clip_tests, clips_tests, head_tests}
use Rattle.record_body.proofs.Common.{limits_at, block_count, clip_size, clip_count, clip_end_at, track_count, Before}
use Rattle.record_body.proofs.Common.{Limits, Track, track_of, all_pass, Pass}
use Rattle.record_body.proofs.Passing.{pass_parts}

pub pass_none : (tests : List Damaged) → Pass tests → first_failed tests ≡ None
pass_none [] pass = refl
pass_none (test ∷ tests) pass = rw (eq-eqb test.want test.have pass.0) (pass_none tests pass.1)

pass_both : (xs ys : List Damaged) → Pass xs → Pass ys → Pass (xs ++ ys)
pass_both [] ys p q = q
pass_both (x ∷ xs) ys p q = (p.0, pass_both xs ys p.1 q)

-- the same limits at another place
abbrev moved : ℕ → Limits → Limits
moved base l = record l { base = base }

module _ (base : ℕ) (l : Limits) (bytes : List ℕ) where
  blocks_moved : (several : Bool) (count before at : ℕ) → Pass (blocks_tests l several count before at bytes)
      → Pass (blocks_tests (moved base l) several count before at bytes)
  blocks_moved several zero before at pass = tt
  blocks_moved several (suc count) before at pass =
      let p = pass_parts (block_tests l several before at bytes) _ pass in
      pass_both (block_tests (moved base l) several before at bytes) _ p.0
      (blocks_moved several count (before + field (at + 8) 4 bytes) (at + 12) p.1)

  clips_moved : (count from at : ℕ) → Pass (clips_tests l count from at bytes)
      → Pass (clips_tests (moved base l) count from at bytes)
  clips_moved zero from at pass = tt
  clips_moved (suc count) from at pass =
      let p = pass_parts (clip_tests l from at bytes) _ pass in
      let one = pass_parts (clip_head_tests l from at bytes) _ p.0 in
      pass_both (clip_tests (moved base l) from at bytes) _
      (pass_both (clip_head_tests (moved base l) from at bytes) _ one.0
      (blocks_moved (nat_lt 1 (block_count at bytes)) (block_count at bytes) (field at 8 bytes) (at + 12) one.1))
      (clips_moved count (clip_end_at at bytes + 1) (at + clip_size at bytes) p.1)

  whole_moved : (at : ℕ) → Pass (whole_tests l at bytes) → Pass (whole_tests (moved base l) at bytes)
  whole_moved at pass =
      let p = pass_parts (how_tests l at bytes) (clips_tests l (clip_count at bytes) 0 (at + 18) bytes) pass in
      pass_both (how_tests (moved base l) at bytes) _ p.0 (clips_moved (clip_count at bytes) 0 (at + 18) p.1)

  tail_moved : (start : ℕ) (olds : List BlockRef) (at : ℕ) → Pass (tail_tests l start olds at bytes)
      → Pass (tail_tests (moved base l) start olds at bytes)
  tail_moved start olds at pass =
      let several = nat_lt 1 (length olds - gone_at at bytes + fresh_at at bytes) in
      let before = start + blocks_len (kept_blocks olds (gone_at at bytes)) in
      let p = pass_parts (tail_head_tests l olds at bytes)
      (blocks_tests l several (fresh_at at bytes) before (at + 17) bytes) pass in
      pass_both (tail_head_tests (moved base l) olds at bytes) _ p.0
      (blocks_moved several (fresh_at at bytes) before (at + 17) p.1)

  marked_moved : (old : Option Track) (at : ℕ) → Pass (marked_tests l old at bytes)
      → Pass (marked_tests (moved base l) old at bytes)
  marked_moved None at pass = whole_moved (at + 1) pass
  marked_moved (Some old) at pass = elim (cases_Bool (mark_at at bytes == 0)) [
    | inl none ↦ rw none tt
    | inr some ↦ elim (cases_Bool (mark_at at bytes == 1)) [
      | inl one ↦ rw (some, one) (whole_moved (at + 1) (rw (some, one) at pass))
      | inr more ↦
          rw (some, more) (tail_moved (last_start old.layout) (last_blocks old.layout) at (rw (some, more) at pass))
    ]
  ]

  change_moved : (old : Option Track) (at : ℕ) → Pass (change_tests l old at bytes)
      → Pass (change_tests (moved base l) old at bytes)
  change_moved old at pass =
      let p = pass_parts (mark_tests (place l.base (at + 8)) (mark_want old (mark_at at bytes)) (mark_at at bytes))
      (marked_tests l old at bytes) pass in
      pass_both (mark_tests (place base (at + 8)) (mark_want old (mark_at at bytes)) (mark_at at bytes)) _ p.0
      (marked_moved old at p.1)

  diff_moved : (current : List Track) (count from at : ℕ) → Pass (all_diff_tests l current count from at bytes)
      → Pass (all_diff_tests (moved base l) current count from at bytes)
  diff_moved current zero from at pass = tt
  diff_moved current (suc count) from at pass =
      let old = track_of (field at 8 bytes) current in
      let p = pass_parts (diff_tests l current from at bytes) _ pass in
      let one = pass_parts (id_tests l from at bytes) (change_tests l old at bytes) p.0 in
      pass_both (diff_tests (moved base l) current from at bytes) _
      (pass_both (id_tests (moved base l) from at bytes) (change_tests (moved base l) old at bytes) one.0
      (change_moved old at one.1))
      (diff_moved current count (field at 8 bytes + 1) (at + diff_size at bytes) p.1)

edit_moved : (m at : ℕ) (b : Before) (current : List Track) (bytes : List ℕ)
    → Pass (delta_edit_tests m b current bytes) → Pass (delta_edit_tests m (record b { at = at }) current bytes)
edit_moved m at b current bytes pass =
    let p = pass_parts (head_tests b bytes)
    (all_diff_tests (limits_at m b bytes) current (track_count bytes) 0 29 bytes) pass in
    pass_both (head_tests (record b { at = at }) bytes) _ p.0
    (diff_moved at (limits_at m b bytes) bytes current (track_count bytes) 0 29 p.1)

by_kind : (m at : ℕ) (b : Before) (current : List Track) (bytes : List ℕ)
    → Pass (if slice_index bytes 0 == 5 then delta_edit_tests m b current bytes else [])
    → Pass (if slice_index bytes 0 == 5 then delta_edit_tests m (record b { at = at }) current bytes else [])
by_kind m at b current bytes pass = elim (cases_Bool (slice_index bytes 0 == 5)) [
  | inl five ↦ rw five (edit_moved m at b current bytes (rw five at pass))
  | inr other ↦ rw other tt
]

pub delta_moved : (m at : ℕ) (b : Before) (current : List Track) (bytes : List ℕ)
    → first_failed (delta_tests m b current bytes) ≡ None
    → first_failed (delta_tests m (record b { at = at }) current bytes) ≡ None
delta_moved m at b current bytes none =
    let pass = all_pass (delta_tests m b current bytes) none in
    pass_none (delta_tests m (record b { at = at }) current bytes)
    (pass.0, (pass.1.0, (pass.1.1.0, by_kind m at b current bytes pass.1.1.1)))
