-- Each way to tell a track passes its tests and is read back.
use Rattle.record_body.proofs.Common.{◌≡◌, ℕ, ◌+◌, ◌-◌, ◌≤◌, ◌<◌, ◌==◌, Bool, true, false, List, [], ◌∷◌, ◌++◌}
use Rattle.record_body.proofs.Common.{length, drop, Option, Some, None, nat_lt, refl, arith}
use Rattle.record_body.proofs.Common.{eqb-true, flat_map, little_bytes, blocks_len, BlockRef, field}
use Rattle.record_body.proofs.Common.{Limits, Change, Same, Whole, Tail, change_bytes, heard_bytes, last_blocks}
use Rattle.record_body.proofs.Common.{last_start, mark_at, change_at, diff_size, mark_want}
use Rattle.record_body.proofs.Common.{mark_tests, whole_tests, kept_blocks, tail_head_tests}
use Rattle.record_body.proofs.Common.{change_tests, place}
use Rattle.record_body.proofs.Common.{block_bytes, Track}
use Rattle.record_body.proofs.ClipsBack.{AreNarrow, has_blocks, has_clips}
use Rattle.record_body.proofs.FieldsBack.{NoneFails, both_pass, passes, byte_there, least_passes, most_passes, no_test}
use Rattle.record_body.proofs.FieldsBack.{number_there, past}
use Rattle.record_body.proofs.TracksBack.{IsGoodTrack, has_heard, side_back, mute_back, whole_pass}
use Rattle.record_body.proofs.{Parts.length_blocks, GoodTails.IsGoodTail}

-- a change that passes its tests
pub record IsBack (l : Limits) (old : Option Track) (c : Change) (at : ℕ) (bytes rest : List ℕ) : Type 0 where
  pub change : change_at at bytes ≡ c
  pub size : diff_size at bytes ≡ 8 + length (change_bytes c)
  pub tests : NoneFails (change_tests l old at bytes)

marks_pass : (at want mark : ℕ) → mark ≤ 2 → want ≡ mark → NoneFails (mark_tests at want mark)
marks_pass at want mark le same = search (arith, most_passes, passes, no_test)

pub back_same : (l : Limits) (o : Track) (at : ℕ) (bytes rest : List ℕ)
    → drop (at + 8) bytes ≡ change_bytes Same ++ rest
    → IsBack l (Some o) Same at bytes rest
back_same l o at bytes rest e =
    search (
      arith,
      byte_there 0 (at + 8) bytes rest e,
      both_pass (mark_tests (place l.base (at + 8)) 0 0) [],
      marks_pass,
    )

-- ---- written out

marked_whole : (l : Limits) (old : Option Track) (at : ℕ) (bytes : List ℕ) → mark_at at bytes ≡ 1
    → NoneFails (whole_tests l (at + 1) bytes) → NoneFails (change_tests l old at bytes)
marked_whole l None at bytes mark pass = search (arith, both_pass, marks_pass)
marked_whole l (Some o) at bytes mark pass = search (arith, both_pass, marks_pass)

pub back_whole : (l : Limits) (from : ℕ) (old : Option Track) (t : Track) (at : ℕ) (bytes rest : List ℕ) → AreNarrow l
    → IsGoodTrack l from t → field at 8 bytes ≡ t.id → drop (at + 8) bytes ≡ change_bytes (Whole t) ++ rest
    → IsBack l old (Whole t) at bytes rest
back_whole l from old t at bytes rest narrow good id e =
    search (
      arith,
      byte_there 1 (at + 8) bytes (heard_bytes t ++ rest) e,
      past (at + 8) (at + 1 + 8) bytes (1 ∷ []) (heard_bytes t ++ rest) e,
      has_heard l from t (at + 1) bytes rest good,
      has_clips l 0 t.layout (at + 1 + 18) bytes rest narrow good.clips,
      side_back t.side,
      mute_back t.mute,
      marked_whole l old at bytes,
      whole_pass l from t (at + 1) bytes rest narrow good,
    )

-- ---- the end of the last clip

some_layout : (n : ℕ) → 0 < n → (n == 0) ≡ false
some_layout n some = by_case (n == 0) (eqb-true n 0)
  where
    by_case : (b : Bool) → (b ≡ true → n ≡ 0) → b ≡ false
    by_case true none = absurd (omega (arith, some, none refl))
    by_case false none = refl

pub back_tail : (l : Limits) (o : Track) (gone : ℕ) (bs : List BlockRef) (at : ℕ) (bytes rest : List ℕ) → AreNarrow l
    → IsGoodTail l o gone bs → drop (at + 8) bytes ≡ change_bytes (Tail gone bs) ++ rest
    → IsBack l (Some o) (Tail gone bs) at bytes rest
back_tail l o gone bs at bytes rest narrow good e =
    let all = flat_map block_bytes bs ++ rest in
    let counted = little_bytes 4 (length bs) ++ all in
    let olds = last_blocks o.layout in
    let before = last_start o.layout + blocks_len (kept_blocks olds gone) in
    search (
      arith,
      byte_there 2 (at + 8) bytes (little_bytes 4 gone ++ counted) e,
      past (at + 8) (at + 9) bytes (2 ∷ []) (little_bytes 4 gone ++ counted) e,
      past (at + 9) (at + 13) bytes (little_bytes 4 gone) counted,
      past (at + 13) (at + 17) bytes (little_bytes 4 (length bs)) all,
      number_there 4 gone (at + 9) bytes counted,
      number_there 4 (length bs) (at + 13) bytes all,
      has_blocks l (nat_lt 1 (length olds - gone + length bs)) before bs (at + 17) bytes rest narrow good.blocks,
      most_passes,
      least_passes,
      both_pass (tail_head_tests l olds at bytes),
      both_pass (mark_tests (place l.base (at + 8)) (mark_want (Some o) (mark_at at bytes)) (mark_at at bytes)),
      some_layout (length o.layout) good.some,
      length_blocks bs,
      marks_pass,
    )
