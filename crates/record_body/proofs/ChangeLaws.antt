-- What the writer's choice says.
use Rattle.record_body.proofs.Common.{◌≡◌, ℕ, zero, suc, ◌-◌, ◌<◌, ◌≤◌, ◌==◌, ◌&&◌, Bool, true, false}
use Rattle.record_body.proofs.Common.{List, [], ◌∷◌, ◌++◌, length, take, drop, Option, Some, None, refl, sym, ◌∙◌, ap}
use Rattle.record_body.proofs.Common.{ap₂, arith, take_all, eqb-true, eq-eqb, ltb-true, BlockRef, Side}
use Rattle.record_body.proofs.Common.{Clip, Track, unnumbered, side_byte, mute_byte, Same, common, same_clip}
use Rattle.record_body.proofs.Common.{same_clips, last_blocks, last_start, same_but_last, same_settings, change_of}
use Rattle.record_body.proofs.Common.{with_last, tailed, changed}
use Rattle.std.proofs.{Common.take-append-drop}
use Rattle.record_body.specs.Changes.{same_blocks, front_clips}
use Rattle.block_sequence.proofs.Fronts.{common_take, common_within}
use Rattle.pcm_base.specs.declared.sound.Side.TheVariants as side

-- ---- tests that hold

pub record Both (a b : Bool) : Type 0 where
  pub first : a ≡ true
  pub second : b ≡ true

pub both : (a b : Bool) → a && b ≡ true → Both a b
both true b e = record { first = refl; second = e }
both false b e = absurd cc

blocks_same : (xs ys : List BlockRef) → same_blocks xs ys ≡ true → xs ≡ ys
blocks_same xs ys e =
    let is = both (length xs == length ys) (common xs ys == length xs) e in
    let long : length xs ≡ length ys = eqb-true (length xs) (length ys) is.first in
    let all : common xs ys ≡ length xs = eqb-true (common xs ys) (length xs) is.second in
    sym (take_all (common xs ys) xs (omega (arith, all))) ∙ common_take xs ys
    ∙ take_all (common xs ys) ys (omega (arith, all, long))

clip_same : (a b : Clip) → same_clip a b ≡ true → a ≡ b
clip_same a b e =
    let is = both (a.start == b.start) (same_blocks a.blocks b.blocks) e in
    let start : a.start ≡ b.start = eqb-true a.start b.start is.first in
    let blocks : a.blocks ≡ b.blocks = blocks_same a.blocks b.blocks is.second in
    λ i. record { start = start i; blocks = blocks i }

pub clips_same : (xs ys : List Clip) → same_clips xs ys ≡ true → xs ≡ ys
clips_same [] [] e = refl
clips_same [] (y ∷ ys) e = absurd cc
clips_same (x ∷ xs) [] e = absurd cc
clips_same (x ∷ xs) (y ∷ ys) e =
    let is = both (same_clip x y) (same_clips xs ys) e in
    ap₂ (λ (c : Clip) (l : List Clip). c ∷ l) (clip_same x y is.first) (clips_same xs ys is.second)

side_same : (a b : Side) → side_byte a ≡ side_byte b → a ≡ b
side_same side.Both side.Both e = refl
side_same side.Left side.Left e = refl
side_same side.Right side.Right e = refl
side_same _ _ e = absurd (omega (arith, e))

mute_same : (a b : Bool) → mute_byte a ≡ mute_byte b → a ≡ b
mute_same true true e = refl
mute_same false false e = refl
mute_same _ _ e = absurd (omega (arith, e))

record Alike (a b : Track) : Type 0 where
  gain : a.gain ≡ b.gain
  side_is : a.side ≡ b.side
  mute : a.mute ≡ b.mute

settings_same : (a b : Track) → same_settings a b ≡ true → Alike a b
settings_same a b e = search (arith, both, eqb-true, side_same, mute_same)

track_same : (a b : Track) → a.id ≡ b.id → Alike a b → a.layout ≡ b.layout → unnumbered a ≡ unnumbered b
track_same a b id alike layout = search arith

-- ---- the last clip

clip_of : ℕ → List BlockRef → Clip
clip_of start bs = record { start = start; blocks = bs }

split_last : (cs : List Clip) (bs : List BlockRef) → 0 < length cs
    → with_last bs cs ≡ front_clips cs ++ clip_of (last_start cs) bs ∷ []
unfolding clip_of
split_last [] bs some = absurd (omega (arith, some))
split_last (c ∷ []) bs some = refl
split_last (c ∷ d ∷ cs) bs some =
    let more : length (c ∷ d ∷ cs) - 1 ≡ suc (length (d ∷ cs) - 1) = omega arith in
    ap (λ (l : List Clip). c ∷ l) (split_last (d ∷ cs) bs (omega arith))
    ∙ ap (λ n. take n (c ∷ d ∷ cs) ++ clip_of (last_start (d ∷ cs)) bs ∷ []) (sym more)

own_last : (cs : List Clip) → with_last (last_blocks cs) cs ≡ cs
own_last [] = refl
own_last (c ∷ []) = refl
own_last (c ∷ d ∷ cs) = ap (λ (l : List Clip). c ∷ l) (own_last (d ∷ cs))

-- where all but the blocks of the last clip is the same, it begins at one place
pub record BeginAlike (xs ys : List Clip) : Type 0 where
  pub some : 0 < length xs
  pub other : 0 < length ys
  pub start : last_start xs ≡ last_start ys
  pub front : front_clips xs ≡ front_clips ys

pub last_starts : (xs ys : List Clip) → same_but_last xs ys ≡ true → BeginAlike xs ys
last_starts xs ys e = search (arith, both, ltb-true, eqb-true, clips_same)

-- clips that differ in the blocks of the last alone
last_alike : (xs ys : List Clip) → same_but_last xs ys ≡ true → with_last (last_blocks ys) xs ≡ ys
last_alike xs ys e =
    search (
      arith,
      last_starts xs ys e,
      split_last xs (last_blocks ys),
      split_last ys (last_blocks ys),
      clip_of,
      own_last ys,
    )

-- what is common, and what comes after it
tail_blocks : (xs ys : List BlockRef)
    → take (length xs - (length xs - common xs ys)) xs ++ drop (common xs ys) ys ≡ ys
tail_blocks xs ys = search (arith, common_within xs ys, common_take xs ys, take-append-drop (common xs ys) ys)

-- ---- the law

abbrev pub HasId : ℕ → Option Track → Type 0
HasId id None = Unit {0}
HasId id (Some old) = old.id ≡ id

pub choice_says : (old : Option Track) (t : Track) → HasId t.id old → changed old (change_of old t) ≡ Some
    (unnumbered t)
choice_says None t same = refl
choice_says (Some old) t same =
    let xs = last_blocks old.layout in
    let ys = last_blocks t.layout in
    search (
      arith,
      both (same_settings old t),
      track_same old t same,
      track_same (tailed (length xs - common xs ys) (drop (common xs ys) ys) old) t same,
      settings_same old t,
      clips_same old.layout t.layout,
      tail_blocks xs ys,
      last_alike old.layout t.layout,
    )

-- ---- the fewest

-- what both begin with is common
common_front : (n : ℕ) (xs ys : List BlockRef) → n ≤ length xs → n ≤ common xs (take n xs ++ ys)
common_front zero xs ys le = omega arith
common_front (suc n) [] ys le = absurd (omega (arith, le))
common_front (suc n) (x ∷ xs) ys le = search (arith, common_front n xs ys (omega (arith, le)), eq-eqb)

last_with : (cs : List Clip) (bs : List BlockRef) → 0 < length cs → last_blocks (with_last bs cs) ≡ bs
last_with [] bs some = absurd (omega (arith, some))
last_with (c ∷ []) bs some = refl
last_with (c ∷ d ∷ []) bs some = refl
last_with (c ∷ d ∷ e ∷ cs) bs some = last_with (d ∷ e ∷ cs) bs (omega arith)

-- any other way to tell the end of the last clip lets as many blocks go at least
pub fewest_gone : (old t : Track) (gone : ℕ) (bs : List BlockRef) → 0 < length old.layout
    → gone ≤ length (last_blocks old.layout) → tailed gone bs old ≡ t
    → length (last_blocks old.layout) - common (last_blocks old.layout) (last_blocks t.layout) ≤ gone
fewest_gone old t gone bs some le e = search (arith, last_with, common_front)

pub same_refl : (bs : List BlockRef) → common bs bs ≡ length bs
same_refl [] = refl
same_refl (b ∷ bs) = search (arith, same_refl bs, eq-eqb)

pub clips_refl : (cs : List Clip) → same_clips cs cs ≡ true
clips_refl [] = refl
clips_refl (c ∷ cs) = search (arith, clips_refl cs, eq-eqb, same_refl)

-- a track that stays is told as such
pub same_stays : (t : Track) → change_of (Some t) t ≡ Same
same_stays t = search (arith, eq-eqb, clips_refl)
