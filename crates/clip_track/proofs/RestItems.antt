-- Lemmas on what is left of a layout from a place on.
use Rattle.clip_track.proofs.Common.{◌≡◌, ℕ, zero, suc, ◌+◌, ◌-◌, ◌<◌, ◌≤◌, inl, inr, min, List, [], ◌∷◌, ◌++◌, length}
use Rattle.clip_track.proofs.Common.{get_or, take, drop, refl, sym, ap, ap₂, ◌∙◌, append_assoc, arith, subst}
use Rattle.clip_track.proofs.Common.{length-drop, cases_lt, le-leb, lt-leb, take_all, sub-zero, Contains, Old, Scaled}
use Rattle.clip_track.proofs.Common.{Zero, Given, BlockRef, Sources, NoneEmpty, Gap, Sound, item_len, part_of_item}
use Rattle.clip_track.proofs.Common.{part_items, items_after, strip_len, strip_cells, strip_blocks, gap_items, AreItems}
use Rattle.clip_track.proofs.Common.{ItemsFit, clip_end, items_from, sound_items, AreClips, left_items, Item, Clip}
use Rattle.std.proofs.{lemmas.List.Elements.Contains-append_right}
use Rattle.clip_track.specs.Items.{item_blocks}
use Rattle.clip_track.specs.Clips.{layout_blocks}
use Rattle.clip_track.specs.Rests.{left_blocks, sound_from, IsWithin, IsLeft}
use Rattle.clip_track.specs.{declared.rest.Left.Left}
use Rattle.clip_track.proofs.Strips.{item_some, part_none, part_past, part_within, AreItems-append, strip_cells-part}
use Rattle.clip_track.proofs.Strips.{length-strip_cells, strip_len-append, item_part_ok, ItemFits-part, item_part_len}
use Rattle.clip_track.proofs.RoughStrips.{part_whole, part_all}
use Rattle.clip_track.proofs.Layouts.{AreItems-gap, AreItems-sound, AreItems-items, strip_len-gap, strip_len-sound}

-- the cases
pub after_past : (skip : ℕ) (x : Item) (xs : List Item) → item_len x ≤ skip
    → items_after skip (x ∷ xs) ≡ items_after (skip - item_len x) xs
after_past skip x xs h = rw (le-leb (item_len x) skip h) refl

pub after_within : (skip : ℕ) (x : Item) (xs : List Item) → skip < item_len x
    → items_after skip (x ∷ xs) ≡ part_of_item skip (item_len x - skip) x ∷ xs
after_within skip x xs h = rw (lt-leb (item_len x) skip h) refl

pub after_none : (xs : List Item) → AreItems xs → items_after 0 xs ≡ xs
after_none [] v = refl
after_none (x ∷ xs) v = after_within 0 x xs (item_some x v.0)
    ∙ ap (λ y. y ∷ xs) (ap (λ n. part_of_item 0 n x) (sub-zero (item_len x)) ∙ part_whole x v.0)

-- past all of a first strip
pub after_first : (skip : ℕ) (xs ys : List Item) → strip_len xs ≤ skip
    → items_after skip (xs ++ ys) ≡ items_after (skip - strip_len xs) ys
after_first skip [] ys h = ap (λ n. items_after n ys) (omega arith)
after_first skip (x ∷ xs) ys h =
    after_past skip x (xs ++ ys) (omega (arith, h)) ∙ after_first (skip - item_len x) xs ys (omega (arith, h))
    ∙ ap (λ n. items_after n ys) (omega (arith, h))

-- within the gaps at the front, or just after them
pub after_gap : (skip g : ℕ) (xs : List Item) → AreItems xs → skip ≤ g
    → items_after skip (gap_items g ++ xs) ≡ gap_items (g - skip) ++ xs
after_gap skip zero xs v h =
    let e : skip ≡ 0 = omega (arith, h) in
    rw e (after_none xs v)
after_gap skip (suc g) xs v h = elim (cases_lt skip (suc g)) [
  | inl lt ↦
      let e : suc g - skip ≡ suc (g - skip) = omega (arith, lt) in
      after_within skip (Gap (suc g)) xs lt ∙ rw e refl
  | inr le ↦
      let e : skip ≡ suc g = omega (arith, le, h) in
      let z : suc g - suc g ≡ 0 = omega arith in
      rw e (after_past (suc g) (Gap (suc g)) xs (omega arith) ∙ rw z (after_none xs v))
]

-- a part of what is left
part_again : (skip n k : ℕ) (x : Item) → part_of_item 0 k (part_of_item skip n x) ≡ part_of_item skip k x
part_again skip n k (Gap len) = refl
part_again skip n k (Sound (Old b from to)) = ap₂ (λ i j. Sound (Old b i j)) (omega arith) (omega arith)
part_again skip n k (Sound (Scaled b from to gain)) = ap₂ (λ i j. Sound (Scaled b i j gain)) (omega arith) (omega arith)
part_again skip n k (Sound (Zero len)) = refl
part_again skip n k (Sound (Given from to)) = ap₂ (λ i j. Sound (Given i j)) (omega arith) (omega arith)

pub part_after : (skip n : ℕ) (xs : List Item) → part_items 0 n (items_after skip xs) ≡ part_items skip n xs
part_after skip zero xs = part_none 0 (items_after skip xs) ∙ sym (part_none skip xs)
part_after skip (suc n) [] = refl
part_after skip (suc n) (x ∷ xs) = elim (cases_lt skip (item_len x)) [
  | inl lt ↦
      let y = part_of_item skip (item_len x - skip) x in
      let e : item_len y - 0 ≡ item_len x - skip = omega (arith, item_part_len skip (item_len x - skip) x) in
      ap (part_items 0 (suc n)) (after_within skip x xs lt)
      ∙ part_within 0 (suc n) y xs (omega arith) (omega (arith, item_part_len skip (item_len x - skip) x, lt))
      ∙ ap (λ k. part_of_item 0 (min (suc n) k) y ∷ part_items 0 (suc n - min (suc n) k) xs) e
      ∙ ap (λ z. z ∷ part_items 0 (suc n - min (suc n) (item_len x - skip)) xs)
      (part_again skip (item_len x - skip) (min (suc n) (item_len x - skip)) x)
      ∙ sym (part_within skip (suc n) x xs (omega arith) lt)
  | inr le ↦
      ap (part_items 0 (suc n)) (after_past skip x xs le)
      ∙ part_after (skip - item_len x) (suc n) xs
      ∙ sym (part_past skip (suc n) x xs (omega arith) le)
]

-- what is left in order
pub within_none : (bs : List BlockRef) → NoneEmpty bs → IsWithin 0 bs
within_none [] some = tt
within_none (b ∷ bs) some = some.0

sound_ok : (passed : ℕ) (bs : List BlockRef) → NoneEmpty bs → IsWithin passed bs → AreItems (sound_from passed bs)
sound_ok passed [] some within = tt
sound_ok passed (b ∷ bs) some within =
    ((omega (arith, within), (omega (arith, within), omega arith, some.0)), AreItems-sound bs some.1)

pub AreItems-left : (l : Left) → IsLeft l → AreItems (left_items l)
AreItems-left l is =
    AreItems-append _ _ (AreItems-append _ _ (AreItems-gap l.gaps) (sound_ok l.passed (left_blocks l) is.some is.within))
    (AreItems-items l.end l.end l.clips.now is.apart)

pub none_empty_after : (bs cs : List BlockRef) → NoneEmpty (bs ++ cs) → NoneEmpty cs
none_empty_after [] cs h = h
none_empty_after (b ∷ bs) cs h = none_empty_after bs cs h.1

-- from one clip to the next
pub sound_whole : (bs : List BlockRef) → sound_from 0 bs ≡ sound_items bs
sound_whole [] = refl
sound_whole (b ∷ bs) = refl

rest_ok : (end : ℕ) (c : Clip) (cs : List Clip) → AreClips end (c ∷ cs)
    → AreItems (sound_items c.blocks ++ items_from (clip_end c) cs)
rest_ok end c cs apart =
    AreItems-append _ _ (AreItems-sound c.blocks apart.2) (AreItems-items (clip_end c) (clip_end c + 1) cs apart.3)

pub in_gap : (end place : ℕ) (c : Clip) (cs : List Clip) → AreClips end (c ∷ cs) → end ≤ place → place ≤ c.start
    → (gap_items (c.start - place) ++ sound_from 0 c.blocks) ++ items_from (clip_end c) cs
    ≡ items_after (place - end) (items_from end (c ∷ cs))
in_gap end place c cs apart later early =
    let rest = items_from (clip_end c) cs in
    let e : c.start - place ≡ c.start - end - (place - end) = omega (arith, later, early) in
    ap (λ ys. (gap_items (c.start - place) ++ ys) ++ rest) (sound_whole c.blocks)
    ∙ append_assoc (gap_items (c.start - place)) (sound_items c.blocks) rest
    ∙ ap (λ n. gap_items n ++ (sound_items c.blocks ++ rest)) e
    ∙ sym (ap (items_after (place - end)) (append_assoc (gap_items (c.start - end)) (sound_items c.blocks) rest)
    ∙ after_gap (place - end) (c.start - end) (sound_items c.blocks ++ rest) (rest_ok end c cs apart)
    (omega (arith, early)))

pub in_sound : (end place : ℕ) (c : Clip) (cs : List Clip) → AreClips end (c ∷ cs) → c.start ≤ place
    → items_after (place - c.start) ((gap_items 0 ++ sound_from 0 c.blocks) ++ items_from (clip_end c) cs)
    ≡ items_after (place - end) (items_from end (c ∷ cs))
in_sound end place c cs apart later =
    let rest = items_from (clip_end c) cs in
    let e : place - end - strip_len (gap_items (c.start - end)) ≡ place - c.start =
    omega (arith, strip_len-gap (c.start - end), apart.0, later) in
    ap (λ ys. items_after (place - c.start) (ys ++ rest)) (sound_whole c.blocks)
    ∙ sym (ap (items_after (place - end)) (append_assoc (gap_items (c.start - end)) (sound_items c.blocks) rest)
    ∙ after_first (place - end) (gap_items (c.start - end)) (sound_items c.blocks ++ rest)
    (omega (arith, strip_len-gap (c.start - end), apart.0, later))
    ∙ ap (λ n. items_after n (sound_items c.blocks ++ rest)) e)

pub past_clip : (end place : ℕ) (c : Clip) (cs : List Clip) → AreClips end (c ∷ cs) → clip_end c ≤ place
    → items_after (place - end) (items_from end (c ∷ cs))
    ≡ items_after (place - clip_end c) (items_from (clip_end c) cs)
past_clip end place c cs apart later =
    let clip = gap_items (c.start - end) ++ sound_items c.blocks in
    let len : strip_len clip ≡ clip_end c - end =
    omega (
      arith,
      strip_len-append (gap_items (c.start - end)) (sound_items c.blocks),
      strip_len-gap (c.start - end),
      strip_len-sound c.blocks,
      apart.0,
    ) in
    after_first (place - end) clip (items_from (clip_end c) cs) (omega (arith, len, later))
    ∙ ap (λ n. items_after n (items_from (clip_end c) cs)) (omega (arith, len, later, apart.0))

-- the first of some, and what is left
pub first_of : {A : Type 0} (xs : List A) (d : A) → 1 ≤ length xs
    → xs ≡ get_or xs 0 d ∷ take (length xs - 1) (drop 1 xs)
first_of [] d some = absurd (omega (arith, some))
first_of (x ∷ xs) d some = ap (λ ys. x ∷ ys) (sym (take_all (length (x ∷ xs) - 1) xs (omega arith)))

pub AreItems-after : (skip : ℕ) (xs : List Item) → AreItems xs → AreItems (items_after skip xs)
AreItems-after skip [] v = tt
AreItems-after skip (x ∷ xs) v = elim (cases_lt skip (item_len x)) [
  | inl lt ↦ rw (after_within skip x xs lt)
      (item_part_ok skip (item_len x - skip) x (omega (arith, lt)) (omega (arith, lt)) v.0, v.1)
  | inr le ↦ rw (after_past skip x xs le) (AreItems-after (skip - item_len x) xs v.1)
]

-- the cells and blocks of what is left
pub after_cells : (src : Sources) (skip : ℕ) (xs : List Item) → AreItems xs
    → strip_cells src (items_after skip xs) ≡ drop skip (strip_cells src xs)
after_cells src skip xs v =
    let rest = items_after skip xs in
    let n = strip_len rest + strip_len xs in
    ap (strip_cells src) (sym (part_all n rest (AreItems-after skip xs v) (omega arith)) ∙ part_after skip n xs)
    ∙ strip_cells-part src skip n xs
    ∙ take_all n (drop skip (strip_cells src xs))
    (omega (arith, length-drop skip (strip_cells src xs), length-strip_cells src xs))

pub after_len : (skip : ℕ) (xs : List Item) → strip_len (items_after skip xs) ≡ strip_len xs - skip
after_len skip [] = omega arith
after_len skip (x ∷ xs) = elim (cases_lt skip (item_len x)) [
  | inl lt ↦ ap strip_len (after_within skip x xs lt) ∙ omega (arith, item_part_len skip (item_len x - skip) x, lt)
  | inr le ↦ ap strip_len (after_past skip x xs le) ∙ omega (arith, after_len (skip - item_len x) xs, le)
]

part_blocks : (skip n : ℕ) (x : Item) → item_blocks (part_of_item skip n x) ≡ item_blocks x
part_blocks skip n (Gap len) = refl
part_blocks skip n (Sound (Old b from to)) = refl
part_blocks skip n (Sound (Scaled b from to gain)) = refl
part_blocks skip n (Sound (Zero len)) = refl
part_blocks skip n (Sound (Given from to)) = refl

pub after_blocks : (skip : ℕ) (xs : List Item) (b : BlockRef) → Contains (strip_blocks (items_after skip xs)) b
    → Contains (strip_blocks xs) b
after_blocks skip [] b there = there
after_blocks skip (x ∷ xs) b there = elim (cases_lt skip (item_len x)) [
  | inl lt ↦
      let same : strip_blocks (items_after skip (x ∷ xs)) ≡ strip_blocks (x ∷ xs) =
      ap strip_blocks (after_within skip x xs lt)
      ∙ ap (λ ys. ys ++ strip_blocks xs) (part_blocks skip (item_len x - skip) x) in
      subst (λ (ys : List BlockRef). Contains ys b) same there
  | inr le ↦
      Contains-append_right (item_blocks x) (strip_blocks xs) b
      (after_blocks (skip - item_len x) xs b
      (subst (λ (ys : List Item). Contains (strip_blocks ys) b) (after_past skip x xs le) there))
]

pub blocks-append : (xs ys : List Item) → strip_blocks (xs ++ ys) ≡ strip_blocks xs ++ strip_blocks ys
blocks-append [] ys = refl
blocks-append (x ∷ xs) ys = ap (λ bs. item_blocks x ++ bs) (blocks-append xs ys)
    ∙ sym (append_assoc (item_blocks x) (strip_blocks xs) (strip_blocks ys))

blocks-gap : (n : ℕ) → strip_blocks (gap_items n) ≡ []
blocks-gap zero = refl
blocks-gap (suc n) = refl

blocks-sound : (bs : List BlockRef) → strip_blocks (sound_items bs) ≡ bs
blocks-sound [] = refl
blocks-sound (b ∷ bs) = ap (λ cs. b ∷ cs) (blocks-sound bs)

pub blocks-layout : (at : ℕ) (cs : List Clip) → strip_blocks (items_from at cs) ≡ layout_blocks cs
blocks-layout at [] = refl
blocks-layout at (c ∷ cs) =
    blocks-append (gap_items (c.start - at) ++ sound_items c.blocks) (items_from (clip_end c) cs)
    ∙ ap₂ ◌++◌
    (blocks-append (gap_items (c.start - at)) (sound_items c.blocks)
    ∙ ap₂ ◌++◌ (blocks-gap (c.start - at)) (blocks-sound c.blocks))
    (blocks-layout (clip_end c) cs)

pub ItemsFit-after : (m skip : ℕ) (xs : List Item) → ItemsFit m xs → ItemsFit m (items_after skip xs)
ItemsFit-after m skip [] v = tt
ItemsFit-after m skip (x ∷ xs) v = elim (cases_lt skip (item_len x)) [
  | inl lt ↦ rw (after_within skip x xs lt) (ItemFits-part m skip (item_len x - skip) x v.0, v.1)
  | inr le ↦ rw (after_past skip x xs le) (ItemsFit-after m (skip - item_len x) xs v.1)
]
