-- What a body of kind 5 says by a valid point is valid, where all its tests pass.
use Rattle.record_body.proofs.Common.{◌≡◌, ℕ, zero, suc, ◌+◌, ◌-◌, ◌≤◌, ◌<◌, List, [], ◌∷◌, ◌++◌}
use Rattle.record_body.proofs.Common.{length, map, take, Option, Some, None, refl, sym, subst, arith}
use Rattle.record_body.proofs.Common.{slice_index, eq-eqb, eqb-true, eqb-false, BlockRef, Clip}
use Rattle.record_body.proofs.Common.{field, first_failed, Edit, Undo, Redo, Purge, changed, last_blocks, last_start}
use Rattle.record_body.proofs.Common.{tailed, with_last, mark_at, gone_at, fresh_at, change_at, diff_at}
use Rattle.record_body.proofs.Common.{diff_size, all_diff_at, mark_want, mark_tests, how_tests, whole_tests}
use Rattle.record_body.proofs.Common.{kept_blocks, tail_tests, id_tests, change_tests, diff_tests}
use Rattle.record_body.proofs.Common.{all_diff_tests, delta_edit_tests, delta_tests, place, clips_tests, head_tests}
use Rattle.record_body.proofs.Common.{limits_at, blocks_at, clip_count, track_at, track_count, AllGiven, AllClipsGiven}
use Rattle.record_body.proofs.Common.{IsValidTrack, AllValidTracks, IsValidPoint, IsValidBody, Body, Before, Limits}
use Rattle.record_body.proofs.Common.{SaysBody, Track, AreUnnumbered, unnumbered, AreAbove, track_of, IsBytes, all_pass}
use Rattle.record_body.proofs.Common.{Pass}
use Rattle.record_body.proofs.ValidBodies.{valid_clips, valid_edit_of}
use Rattle.record_body.proofs.Tails.{end_last, last_end, valid_tail, layout_with, half_with}
use Rattle.record_body.proofs.DiffTracks.{some_is, diff_id, diff_unnumbered, id_bounds}
use Rattle.record_body.proofs.SaysOnce.{same_edit}
use Rattle.record_body.proofs.{SavedBounds.tracks_more, Numbers.field_small, Passing.pass_parts}

-- ---- blocks that were given

given_take : (next n : ℕ) (bs : List BlockRef) → AllGiven next bs → AllGiven next (take n bs)
given_take next zero bs g = tt
given_take next (suc n) [] g = tt
given_take next (suc n) (b ∷ bs) g = (g.0, g.1, given_take next n bs g.2)

given_append : (next : ℕ) (xs ys : List BlockRef) → AllGiven next xs → AllGiven next ys → AllGiven next (xs ++ ys)
given_append next [] ys p q = q
given_append next (x ∷ xs) ys p q = (p.0, p.1, given_append next xs ys p.2 q)

given_last : (next : ℕ) (cs : List Clip) → AllClipsGiven next cs → AllGiven next (last_blocks cs)
given_last next [] g = tt
given_last next (c ∷ []) g = g.0
given_last next (c ∷ d ∷ cs) g = given_last next (d ∷ cs) g.1

given_with : (next : ℕ) (cs : List Clip) (bs : List BlockRef) → AllClipsGiven next cs → AllGiven next bs
    → AllClipsGiven next (with_last bs cs)
given_with next [] bs g h = tt
given_with next (c ∷ []) bs g h = (h, tt)
given_with next (c ∷ d ∷ cs) bs g h = (g.0, given_with next (d ∷ cs) bs g.1 h)

-- ---- one track

abbrev ValidIn : Limits → Track → Type 0
ValidIn l t = IsValidTrack l.block_size l.next_block l.next_track t

-- a track of the current point, whose blocks were given by now
record IsOld (l : Limits) (id : ℕ) (old : Track) : Type 0 where
  next : ℕ
  valid : IsValidTrack l.block_size l.next_block next old
  same : old.id ≡ id

valid_same : (l : Limits) (id : ℕ) (old : Track) → id < l.next_track → IsOld l id old → ValidIn l (unnumbered old)
valid_same l id old below is = search arith

valid_whole : (l : Limits) (id at : ℕ) (bytes : List ℕ) → id < l.next_track → Pass (whole_tests l at bytes)
    → ValidIn l (record (track_at at bytes) { id = id })
valid_whole l id at bytes below pass =
    search (
      arith,
      pass_parts (how_tests l at bytes) (clips_tests l (clip_count at bytes) 0 (at + 18) bytes) pass,
      valid_clips l (clip_count at bytes) 0 0 (at + 18) bytes,
    )

valid_tailed : (l : Limits) (id : ℕ) (old : Track) (at : ℕ) (bytes : List ℕ) → id < l.next_track
    → 0 < length old.layout → IsOld l id old
    → Pass (tail_tests l (last_start old.layout) (last_blocks old.layout) at bytes)
    → ValidIn l (tailed (gone_at at bytes) (blocks_at (fresh_at at bytes) (at + 17) bytes) old)
valid_tailed l id old at bytes below some is pass =
    let s = is.valid in
    let cs = old.layout in
    let olds = last_blocks cs in
    let kept = kept_blocks olds (gone_at at bytes) in
    let fresh = blocks_at (fresh_at at bytes) (at + 17) bytes in
    search (
      arith,
      last_end l.block_size 0 cs s.layout.apart s.half_full,
      end_last 0 cs some,
      valid_tail l (last_start cs) olds at bytes,
      given_append l.next_block kept fresh,
      given_take l.next_block (length olds - gone_at at bytes) olds,
      given_last l.next_block cs s.blocks,
      layout_with cs (kept ++ fresh) some s.layout,
      half_with l.block_size cs (kept ++ fresh) s.half_full,
      given_with l.next_block cs (kept ++ fresh) s.blocks,
    )

-- a track whose end is replaced has clips
pub has_clips : (old : Track) (mark : ℕ) → mark ≡ 2 → mark_want (Some old) mark ≡ mark → 0 < length old.layout
has_clips old mark two want = search (arith, eq-eqb, eqb-false)

valid_new : (l : Limits) (at : ℕ) (bytes : List ℕ) (t : Track) → field at 8 bytes < l.next_track
    → Pass (change_tests l None at bytes) → changed None (change_at at bytes) ≡ Some t → ValidIn l t
valid_new l at bytes t below pass e = search (arith, pass_parts, some_is, valid_whole)

valid_known : (l : Limits) (old : Track) (at : ℕ) (bytes : List ℕ) (t : Track) → field at 8 bytes < l.next_track
    → IsOld l (field at 8 bytes) old → Pass (change_tests l (Some old) at bytes)
    → changed (Some old) (change_at at bytes) ≡ Some t → ValidIn l t
valid_known l old at bytes t below is pass e =
    search (
      arith,
      pass_parts (mark_tests (place l.base (at + 8)) (mark_want (Some old) (mark_at at bytes)) _) _ pass,
      some_is,
      valid_same l (field at 8 bytes) old below is,
      valid_whole l (field at 8 bytes) (at + 1) bytes below,
      eqb-false (mark_at at bytes) 0,
      eqb-false (mark_at at bytes) 1,
      valid_tailed l (field at 8 bytes) old at bytes below,
      has_clips old (mark_at at bytes),
    )

-- ---- all tracks

-- a track that was found
found_old : (l : Limits) (next id : ℕ) (ts : List Track) (t : Track)
    → AllValidTracks l.block_size l.next_block next ts → track_of id ts ≡ Some t → IsOld l id t
found_old l next id [] t valid e = absurd (none_some e)
  where
    none_some : None ≡ Some t → ⊥
    none_some q = cc
found_old l next id (x ∷ ts) t valid e = search (arith, found_old l next id ts t valid.1, some_is, eqb-true)

valid_changed : (l : Limits) (old : Option Track) (at : ℕ) (bytes : List ℕ) (t : Track)
    → field at 8 bytes < l.next_track
    → ((o : Track) → old ≡ Some o → IsOld l (field at 8 bytes) o) → Pass (change_tests l old at bytes)
    → changed old (change_at at bytes) ≡ Some t → ValidIn l t
valid_changed l None at bytes t below known pass e = valid_new l at bytes t below pass e
valid_changed l (Some o) at bytes t below known pass e = valid_known l o at bytes t below (known o refl) pass e

valid_diff : (l : Limits) (next : ℕ) (current : List Track) (from at : ℕ) (bytes : List ℕ) (t : Track)
    → AllValidTracks l.block_size l.next_block next current → Pass (diff_tests l current from at bytes)
    → diff_at current at bytes ≡ Some t → ValidIn l t
valid_diff l next current from at bytes t valid pass e =
    search (
      arith,
      pass_parts (id_tests l from at bytes) (change_tests l (track_of (field at 8 bytes) current) at bytes) pass,
      valid_changed l (track_of (field at 8 bytes) current) at bytes t,
      id_bounds l current from at bytes pass,
      found_old l next (field at 8 bytes) current,
    )

first_is : {A : Type 0} (x y : A) (xs ys : List A) → x ∷ xs ≡ y ∷ ys → x ≡ y
first_is x y xs ys e = cc

others_are : {A : Type 0} (x y : A) (xs ys : List A) → x ∷ xs ≡ y ∷ ys → xs ≡ ys
others_are x y xs ys e = cc

none_first : {A : Type 0} (x : A) (xs : List A) → [] ≡ x ∷ xs → ⊥
none_first x xs e = cc

-- tracks whose ids rise from a number that the first reaches
valid_all : (l : Limits) (next : ℕ) (current : List Track) (count low from at : ℕ) (bytes : List ℕ) (ts : List Track)
    → ((id : ℕ) → 1 ≤ id → from ≤ id → low ≤ id) → AllValidTracks l.block_size l.next_block next current
    → Pass (all_diff_tests l current count from at bytes) → map Some ts ≡ all_diff_at current count at bytes
    → AreAbove low ts × AllValidTracks l.block_size l.next_block l.next_track ts × (length ts ≡ count)
    × AreUnnumbered ts
valid_all l next current zero low from at bytes [] reaches valid pass e = (tt, tt, refl, tt)
valid_all l next current zero low from at bytes (t ∷ ts) reaches valid pass e = search (arith, none_first)
valid_all l next current (suc count) low from at bytes [] reaches valid pass e = search (arith, none_first)
valid_all l next current (suc count) low from at bytes (t ∷ ts) reaches valid pass e =
    let more = at + diff_size at bytes in
    let p = pass_parts (diff_tests l current from at bytes)
    (all_diff_tests l current count (field at 8 bytes + 1) more bytes) pass in
    let told = diff_at current at bytes in
    let others = all_diff_at current count more bytes in
    let here : told ≡ Some t = sym (first_is (Some t) told (map Some ts) others e) in
    let from' = field at 8 bytes + 1 in
    let rest = valid_all l next current count from' from' more bytes ts (λ id one le. le) valid p.1
    (others_are (Some t) told (map Some ts) others e) in
    let id : t.id ≡ field at 8 bytes = diff_id current at bytes t here in
    let bounds = id_bounds l current from at bytes p.0 in (
      (
        omega (arith, id, reaches (field at 8 bytes) bounds.0 bounds.1),
        subst (λ (n : ℕ). AreAbove (n + 1) ts) (sym id) rest.0,
      ),
      (valid_diff l next current from at bytes t valid p.0 here, rest.1),
      omega (arith, rest.2),
      (diff_unnumbered current at bytes t here, rest.3),
    )

pub delta_valid : (m : ℕ) (b : Before) (next : ℕ) (current : List Track) (bytes : List ℕ) (body : Body) → IsBytes bytes
    → IsValidPoint m b.next_block next current → first_failed (delta_tests m b current bytes) ≡ None
    → SaysBody current bytes body → IsValidBody m b body
delta_valid m b next current bytes (Edit tag next_block next_track ts) fit is none says =
    let l = limits_at m b bytes in
    let count = track_count bytes in
    let s = says.1 in
    let pass : Pass (delta_edit_tests m b current bytes) =
    rw (eq-eqb (slice_index bytes 0) 5 says.0) at (all_pass (delta_tests m b current bytes) none).1.1.1 in
    let p = pass_parts (head_tests b bytes) (all_diff_tests l current count 0 29 bytes) pass in
    let later : b.next_block ≤ field 9 8 bytes = omega (arith, p.0.1.1.1.0) in
    let old = tracks_more m b.next_block next (field 9 8 bytes) next current later (omega arith) is.valid in
    let all = valid_all l next current count 1 0 29 bytes ts (λ id one le. one) old p.1 s.3 in
    subst (IsValidBody m b) (sym (same_edit s.0 s.1 s.2 refl))
    (valid_edit_of m b bytes ts fit p.0 all.2 all.0 all.1 all.3)
delta_valid m b next current bytes Undo fit is none says = tt
delta_valid m b next current bytes Redo fit is none says = tt
delta_valid m b next current bytes (Purge n) fit is none says = omega (arith, says.1, field_small 1 8 bytes fit)
