-- How rough a part of a layout's strip is.
use Rattle.clip_track.proofs.Common.{◌≡◌, ℕ, zero, suc, ◌+◌, ◌-◌, ◌*◌, ◌<◌, ◌≤◌, inl, inr, min, Bool, true, false, ◌&&◌}
use Rattle.clip_track.proofs.Common.{◌||◌, List, [], ◌∷◌, ◌++◌, length, refl, ap, ap₂, ◌∙◌, arith, append_assoc}
use Rattle.clip_track.proofs.Common.{if◌then◌else◌, cases_Bool, cases_lt, le-leb, sub-zero, append-nil, Old, Scaled}
use Rattle.clip_track.proofs.Common.{Zero, Given, AllFull, IsHalfFull, block_lens, Piece, BlockRef, part_of, is_whole}
use Rattle.clip_track.proofs.Common.{is_full-true, Gap, Sound, item_len, strip_len, part_of_item, part_items, IsItem}
use Rattle.clip_track.proofs.Common.{AreItems, gap_items, clip_end, AreClips, AllHalfFull, sound_items, items_from}
use Rattle.clip_track.proofs.Common.{gap_next, rough_items, Item, Clip}
use Rattle.std.proofs.lemmas.Bool.{eq-eqb, and_from}
use Rattle.pcm_base.specs.{Pieces.whole}
use Rattle.block_sequence.specs.Fuse.{is_full, rough, unfull}
use Rattle.clip_track.specs.Rough.{rough_piece, rough_from}
use Rattle.clip_track.proofs.Strips.{part_none, part_past, part_within, item_some}

rough_piece_le : (m : ℕ) (p : Piece) (b : Bool) → rough_piece m p b ≤ 1
rough_piece_le m p b =
    elim (cases_Bool (is_full m p || (b && is_whole p))) [ inl e ↦ rw e (omega arith) | inr e ↦ rw e (omega arith) ]

-- with no gap on one side a piece is no better
rough_piece_worse : (m : ℕ) (p : Piece) (b : Bool) → rough_piece m p b ≤ rough_piece m p false
rough_piece_worse m p true =
    elim (cases_Bool (is_full m p)) [ inl e ↦ rw e (omega arith) | inr e ↦ rw e (below_one (is_whole p)) ]
  where
    below_one : (b : Bool) → (if b then 0 else 1) ≤ 1
    below_one true = omega arith
    below_one false = omega arith
rough_piece_worse m p false = omega arith

worse_start : (m : ℕ) (s r : Bool) (ys : List Item) → rough_items m s r ys ≤ rough_items m false r ys
worse_start m s r [] = omega arith
worse_start m s r (Gap n ∷ ys) = omega arith
worse_start m s r (Sound p ∷ ys) = omega (arith, rough_piece_worse m p (s && gap_next r ys))

pub rough-append : (m : ℕ) (s r : Bool) (xs ys : List Item)
    → rough_items m s r (xs ++ ys) ≤ rough_items m s false xs + rough_items m false r ys
rough-append m s r [] ys = omega (arith, worse_start m s r ys)
rough-append m s r (Gap n ∷ xs) ys = rough-append m true r xs ys
rough-append m s r (Sound p ∷ xs) ys = omega (arith, rough-append m false r xs ys, first m s r p xs ys)
  where
    last_one : (m : ℕ) (s r : Bool) (p : Piece) (ys : List Item)
        → rough_piece m p (s && gap_next r ys) ≤ rough_piece m p (s && false)
    last_one m true r p ys = rough_piece_worse m p (gap_next r ys)
    last_one m false r p ys = omega arith

    first : (m : ℕ) (s r : Bool) (p : Piece) (xs ys : List Item)
        → rough_piece m p (s && gap_next r (xs ++ ys)) ≤ rough_piece m p (s && gap_next false xs)
    first m s r p [] ys = last_one m s r p ys
    first m s r p (Gap n ∷ xs) ys = omega arith
    first m s r p (Sound q ∷ xs) ys = omega arith

-- all of an item, and all items
pub part_whole : (x : Item) → IsItem x → part_of_item 0 (item_len x) x ≡ x
part_whole (Gap n) h = refl
part_whole (Sound (Old b from to)) h = ap₂ (λ i j. Sound (Old b i j)) (omega arith) (omega (arith, h))
part_whole (Sound (Scaled b from to gain)) h = ap₂ (λ i j. Sound (Scaled b i j gain)) (omega arith) (omega (arith, h))
part_whole (Sound (Zero len)) h = refl
part_whole (Sound (Given from to)) h = ap₂ (λ i j. Sound (Given i j)) (omega arith) (omega (arith, h))

pub part_all : (left : ℕ) (xs : List Item) → AreItems xs → strip_len xs ≤ left → part_items 0 left xs ≡ xs
part_all left [] v h = refl
part_all left (x ∷ xs) v h =
    let s = item_some x v.0 in
    let k : min left (item_len x - 0) ≡ item_len x = omega arith in
    part_within 0 left x xs (omega arith) s
    ∙ rw k (ap₂ ◌∷◌ (part_whole x v.0) (part_all (left - item_len x) xs v.1 (omega arith)))

one_item : (m : ℕ) (s r : Bool) (x : Item) → rough_items m s r (x ∷ []) ≤ 1
one_item m s r (Gap n) = omega arith
one_item m s r (Sound p) = omega (arith, rough_piece_le m p (s && r))

pub same_next : (r : Bool) (n : ℕ) (y : Item) (ys : List Item) → 0 < n → 0 < item_len y
    → gap_next false (part_items 0 n (y ∷ ys)) ≡ gap_next r (y ∷ ys)
same_next r n (Gap k) ys a b = rw (part_within 0 n (Gap k) ys a b) refl
same_next r n (Sound p) ys a b = rw (part_within 0 n (Sound p) ys a b) refl

cons_front : (m : ℕ) (s r : Bool) (x : Item) (ps qs : List Item) → gap_next false ps ≡ gap_next r qs
    → ((t : Bool) → rough_items m t false ps ≤ rough_items m t r qs + 1)
    → rough_items m s false (x ∷ ps) ≤ rough_items m s r (x ∷ qs) + 1
cons_front m s r (Gap n) ps qs e h = h true
cons_front m s r (Sound p) ps qs e h =
    let f = ap (λ b. rough_piece m p (s && b)) e in
    omega (arith, h false, f)

-- the front of a strip
pub rough_front : (m : ℕ) (s r : Bool) (n : ℕ) (xs : List Item) → AreItems xs
    → rough_items m s false (part_items 0 n xs) ≤ rough_items m s r xs + 1
rough_front m s r zero xs v = rw (part_none 0 xs) (omega arith)
rough_front m s r (suc n) [] v = omega arith
rough_front m s r (suc n) (x ∷ xs) v = elim (cases_lt (suc n) (item_len x)) [
  | inl a ↦
      let k : min (suc n) (item_len x - 0) ≡ suc n = omega arith in
      let z : suc n - suc n ≡ 0 = omega arith in
      let e : part_items 0 (suc n) (x ∷ xs) ≡ part_of_item 0 (suc n) x ∷ [] =
      part_within 0 (suc n) x xs (omega arith) (omega arith) ∙ rw (k, z, part_none) refl in
      rw e (omega (arith, one_item m s false (part_of_item 0 (suc n) x)))
  | inr a ↦
      let k : min (suc n) (item_len x - 0) ≡ item_len x = omega arith in
      let e : part_items 0 (suc n) (x ∷ xs) ≡ x ∷ part_items 0 (suc n - item_len x) xs =
      part_within 0 (suc n) x xs (omega arith) (item_some x v.0) ∙ rw (k, part_whole x v.0) refl in
      rw e (go m s r x (suc n - item_len x) xs v.1 (λ t. rough_front m t r (suc n - item_len x) xs v.1))
]
  where
    go : (m : ℕ) (s r : Bool) (x : Item) (n : ℕ) (xs : List Item) → AreItems xs
        → ((t : Bool) → rough_items m t false (part_items 0 n xs) ≤ rough_items m t r xs + 1)
        → rough_items m s false (x ∷ part_items 0 n xs) ≤ rough_items m s r (x ∷ xs) + 1
    go m s r x zero xs v f = rw (part_none 0 xs) (omega (arith, one_item m s false x))
    go m s r x (suc n) [] v f = omega (arith, one_item m s false x)
    go m s r x (suc n) (y ∷ ys) v f =
        cons_front m s r x (part_items 0 (suc n) (y ∷ ys)) (y ∷ ys)
        (same_next r (suc n) y ys (omega arith) (item_some y v.0)) f

-- the end of a strip
back_past : (m : ℕ) (s r : Bool) (x : Item) (ps xs : List Item)
    → ((t : Bool) → rough_items m false r ps ≤ rough_items m t r xs + 1)
    → rough_items m false r ps ≤ rough_items m s r (x ∷ xs) + 1
back_past m s r (Gap n) ps xs h = h true
back_past m s r (Sound p) ps xs h = omega (arith, h false)

back_within : (m : ℕ) (s r : Bool) (skip k : ℕ) (x : Item) (xs : List Item)
    → rough_items m false r (part_of_item skip k x ∷ xs) ≤ rough_items m s r (x ∷ xs) + 1
back_within m s r skip k (Gap n) xs = omega arith
back_within m s r skip k (Sound p) xs = omega (arith, rough_piece_le m (part_of skip k p) false)

pub rough_back : (m : ℕ) (s r : Bool) (skip left : ℕ) (xs : List Item) → AreItems xs → strip_len xs ≤ skip + left
    → rough_items m false r (part_items skip left xs) ≤ rough_items m s r xs + 1
rough_back m s r skip zero xs v h = rw (part_none skip xs) (omega arith)
rough_back m s r skip (suc left) [] v h = omega arith
rough_back m s r skip (suc left) (x ∷ xs) v h = elim (cases_lt skip (item_len x)) [
  | inl a ↦
      let e : part_items skip (suc left) (x ∷ xs) ≡ part_of_item skip (min (suc left) (item_len x - skip)) x ∷ xs =
      part_within skip (suc left) x xs (omega arith) a
      ∙ ap (λ ys. part_of_item skip (min (suc left) (item_len x - skip)) x ∷ ys)
      (part_all (suc left - min (suc left) (item_len x - skip)) xs v.1 (omega arith)) in
      rw e (back_within m s r skip (min (suc left) (item_len x - skip)) x xs)
  | inr a ↦
      rw (part_past skip (suc left) x xs (omega arith) a) (
      back_past m s r x (part_items (skip - item_len x) (suc left) xs) xs
      (λ t. rough_back m t r (skip - item_len x) (suc left) xs v.1 (omega arith)))
]

-- a layout's strip is not rough
whole_is_whole : (b : BlockRef) → is_whole (whole b) ≡ true
whole_is_whole b = and_from _ _ (eq-eqb 0 0 refl) (eq-eqb b.len b.len refl)

large_is_full : (m : ℕ) (b : BlockRef) → m ≤ 2 * b.len → b.len ≤ m → is_full m (whole b) ≡ true
unfolding is_full
large_is_full m b h k =
    let e = sub-zero b.len in
    and_from _ _ (and_from _ _ (whole_is_whole b) (le-leb m (2 * (b.len - 0)) (omega (arith, e))))
    (le-leb (b.len - 0) m (omega (arith, e)))

rough_full : (m : ℕ) (s : Bool) (bs : List BlockRef) (rest : List Item) → AllFull m (block_lens bs)
    → rough_items m s true (sound_items bs ++ rest) ≤ rough_items m false true rest
rough_full m s [] rest h = worse_start m s true rest
rough_full m s (b ∷ bs) rest h =
    let e : rough_piece m (whole b) (s && gap_next true (sound_items bs ++ rest)) ≡ 0 =
    rw (large_is_full m b h.0.0 h.0.1) refl in
    omega (arith, e, rough_full m false bs rest h.1)

-- what follows a clip begins with a gap
follows : (m e : ℕ) (cs : List Clip) → AreClips (e + 1) cs → (gap_next true (items_from e cs) ≡ true)
    × (rough_items m false true (items_from e cs) ≡ rough_items m true true (items_from e cs))
follows m e [] a = (refl, refl)
follows m e (c ∷ cs) a =
    let k : c.start - e ≡ suc (c.start - e - 1) = omega (arith, a.0) in
    rw k (refl, refl)

whole_alone : (m : ℕ) (b : BlockRef) → rough_piece m (whole b) true ≡ 0
whole_alone m b = elim (cases_Bool (is_full m (whole b)))
    [ inl s ↦ rw s refl | inr s ↦ rw s (lone (is_whole (whole b)) (whole_is_whole b)) ]
  where
    lone : (w : Bool) → w ≡ true → (let n : ℕ = if false || (true && w) then 0 else 1 in n) ≡ 0
    lone w e = rw e refl

rough_clip : (m : ℕ) (bs : List BlockRef) (rest : List Item) → IsHalfFull m (block_lens bs) → gap_next true rest ≡ true
    → rough_items m false true rest ≡ rough_items m true true rest
    → rough_items m true true (sound_items bs ++ rest) ≤ rough_items m true true rest
rough_clip m [] rest h g e = omega arith
rough_clip m (b ∷ []) rest h g e =
    let f : rough_piece m (whole b) (true && gap_next true rest) ≡ 0 = rw g (whole_alone m b) in
    omega (arith, e, f)
rough_clip m (b ∷ c ∷ bs) rest h g e = omega (arith, e, rough_full m true (b ∷ c ∷ bs) rest h)

rough_gap : (m g : ℕ) (rest : List Item) → rough_items m true true (gap_items g ++ rest) ≡ rough_items m true true rest
rough_gap m zero rest = refl
rough_gap m (suc g) rest = refl

pub rough_layout : (m at from : ℕ) (cs : List Clip) → AreClips from cs → AllHalfFull m cs
    → rough_items m true true (items_from at cs) ≡ 0
rough_layout m at from [] a h = refl
rough_layout m at from (c ∷ cs) a h =
    let rest = items_from (clip_end c) cs in
    let f = follows m (clip_end c) cs a.3 in
    ap (rough_items m true true) (append_assoc (gap_items (c.start - at)) (sound_items c.blocks) rest)
    ∙ rough_gap m (c.start - at) (sound_items c.blocks ++ rest)
    ∙ omega (arith, rough_clip m c.blocks rest h.0 f.0 f.1, rough_layout m (clip_end c) (clip_end c + 1) cs a.3 h.1)

-- clip by clip
unfull-append : (m : ℕ) (ps qs : List Piece) → unfull m (ps ++ qs) ≡ unfull m ps + unfull m qs
unfull-append m [] qs = omega arith
unfull-append m (p ∷ ps) qs = omega (arith, unfull-append m ps qs)

rough_le : (m : ℕ) (ps : List Piece) → rough m ps ≤ unfull m ps
rough_le m [] = omega arith
rough_le m (p ∷ []) = elim (cases_Bool (is_full m p)) [
  | inl s ↦ rw ((is_full-true m p s).0, s) (omega arith)
  | inr s ↦ rw s (at_most_one (is_whole p))
]
  where
    at_most_one : (b : Bool) → (if b then 0 else 1) ≤ 1 + 0
    at_most_one true = omega arith
    at_most_one false = omega arith
rough_le m (p ∷ q ∷ ps) = omega arith

alone : (m : ℕ) (p : Piece) → rough_piece m p false ≡ unfull m (p ∷ [])
alone m p = elim (cases_Bool (is_full m p)) [ inl s ↦ rw s refl | inr s ↦ rw s refl ]

between_gaps : (m : ℕ) (p : Piece) → rough m (p ∷ []) ≤ rough_piece m p true
between_gaps m p = elim (cases_Bool (is_full m p)) [
  | inl s ↦ rw ((is_full-true m p s).0, s) (omega arith)
  | inr s ↦ rw s (same (is_whole p))
]
  where
    same : (b : Bool) → (if b then 0 else 1) ≤ (if false || (true && b) then 0 else 1)
    same true = omega arith
    same false = omega arith

from_held : (m : ℕ) (held : List Piece) (xs : List Item)
    → ((ys : List Item) → length ys < length xs → rough_from m [] ys ≤ rough_items m true true ys)
    → rough_from m held xs ≤ unfull m held + rough_items m false true xs
from_held m held [] f = omega (arith, rough_le m held)
from_held m held (Gap n ∷ xs) f = omega (arith, rough_le m held, f xs (omega arith))
from_held m held (Sound p ∷ xs) f =
    omega (
      arith,
      from_held m (held ++ p ∷ []) xs (λ ys h. f ys (omega arith)),
      unfull-append m held (p ∷ []),
      alone m p,
    )

from_none : (m n : ℕ) (xs : List Item) → length xs ≤ n → rough_from m [] xs ≤ rough_items m true true xs
from_none m n [] h = omega arith
from_none m zero (x ∷ xs) h = absurd (omega arith)
from_none m (suc n) (Gap k ∷ xs) h = omega (arith, from_none m n xs (omega arith))
from_none m (suc n) (Sound p ∷ []) h = omega (arith, between_gaps m p)
from_none m (suc n) (Sound p ∷ Gap k ∷ xs) h = omega (arith, between_gaps m p, from_none m n xs (omega arith))
from_none m (suc n) (Sound p ∷ Sound q ∷ xs) h =
    omega (arith, from_held m (p ∷ []) (Sound q ∷ xs) (λ ys k. from_none m n ys (omega arith)), alone m p)

pub rough_from_le : (m : ℕ) (xs : List Item) → rough_from m [] xs ≤ rough_items m true true xs
rough_from_le m xs = from_none m (length xs) xs (omega arith)

-- a part between
middle_past : (m : ℕ) (s r : Bool) (x : Item) (ps xs : List Item)
    → ((t : Bool) → rough_items m false false ps ≤ rough_items m t r xs + 2)
    → rough_items m false false ps ≤ rough_items m s r (x ∷ xs) + 2
middle_past m s r (Gap n) ps xs h = h true
middle_past m s r (Sound p) ps xs h = omega (arith, h false)

middle_within : (m : ℕ) (s r : Bool) (skip k n : ℕ) (x : Item) (xs : List Item) → AreItems xs
    → rough_items m false false (part_of_item skip k x ∷ part_items 0 n xs) ≤ rough_items m s r (x ∷ xs) + 2
middle_within m s r skip k n (Gap i) xs v = omega (arith, rough_front m true r n xs v)
middle_within m s r skip k n (Sound p) xs v =
    omega (arith, rough_piece_le m (part_of skip k p) false, rough_front m false r n xs v)

pub rough_middle : (m : ℕ) (s r : Bool) (skip left : ℕ) (xs : List Item) → AreItems xs
    → rough_items m false false (part_items skip left xs) ≤ rough_items m s r xs + 2
rough_middle m s r skip zero xs v = rw (part_none skip xs) (omega arith)
rough_middle m s r skip (suc left) [] v = omega arith
rough_middle m s r skip (suc left) (x ∷ xs) v = elim (cases_lt skip (item_len x)) [
  | inl a ↦
      rw (part_within skip (suc left) x xs (omega arith) a) (
      middle_within m s r skip (min (suc left) (item_len x - skip))
      (suc left - min (suc left) (item_len x - skip)) x xs v.1)
  | inr a ↦
      rw (part_past skip (suc left) x xs (omega arith) a) (
      middle_past m s r x (part_items (skip - item_len x) (suc left) xs) xs
      (λ t. rough_middle m t r (skip - item_len x) (suc left) xs v.1))
]

pub rough_only_gap : (m : ℕ) (s r : Bool) (n : ℕ) → rough_items m s r (gap_items n) ≡ 0
rough_only_gap m s r zero = refl
rough_only_gap m s r (suc n) = refl

-- three parts, one after another
pub rough_three : (m : ℕ) (xs ys zs : List Item) → rough_items m true true (xs ++ ys ++ zs)
    ≤ rough_items m true false xs + rough_items m false false ys + rough_items m false true zs
rough_three m xs ys zs = omega (arith, rough-append m true true (xs ++ ys) zs, rough-append m true false xs ys)

pub rough_end : (m : ℕ) (s : Bool) (xs : List Item) → rough_items m s true xs ≤ rough_items m s false xs
rough_end m s xs =
    let e = ap (rough_items m s true) (append-nil xs) in
    omega (arith, rough-append m s true xs [], e)
