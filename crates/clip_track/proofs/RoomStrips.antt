-- The room of parts of a strip, and of strips one after another.
use Rattle.clip_track.proofs.Common.{◌≡◌, ℕ, zero, suc, ◌+◌, ◌-◌, ◌*◌, ◌≤◌, inl, inr, min, Bool, true, false, ◌&&◌}
use Rattle.clip_track.proofs.Common.{◌||◌, List, [], ◌∷◌, ◌++◌, refl, ap, ◌∙◌, arith, cases_Bool, cases_lt, Piece}
use Rattle.clip_track.proofs.Common.{piece_len, part_of, piece_len-part, is_whole, Stand, First, Behind, Within}
use Rattle.clip_track.proofs.Common.{item_len, strip_len, part_of_item, part_items, gap_items, AreItems, gap_next}
use Rattle.clip_track.proofs.Common.{rough_items, ItemShort, ItemsShort, Item, Gap, Sound, is_first, strip_room}
use Rattle.block_sequence.specs.Fuse.{is_full}
use Rattle.block_sequence.specs.Room.{spare, taken}
use Rattle.clip_track.proofs.Strips.{part_none, part_past, part_within, item_some}
use Rattle.clip_track.proofs.RoughStrips.{part_whole, part_all, same_next}
use Rattle.clip_track.proofs.ShortStrips.{short_part}

taken_most : (m : ℕ) (s : Stand) → taken m s ≤ m
taken_most m First = omega arith
taken_most m Behind = omega arith
taken_most m Within = omega arith

pub spare_most : (m : ℕ) (s : Stand) → spare m s ≤ 2 * m
spare_most m First = omega arith
spare_most m Behind = omega arith
spare_most m Within = omega arith

-- a full piece, and one that is not
full_room : (m : ℕ) (s : Stand) (r : Bool) (p : Piece) (xs : List Item) → is_full m p ≡ true
    → strip_room m s r (Sound p ∷ xs) ≡ taken m s + strip_room m Behind r xs
full_room m s r p xs e = rw e refl

-- before a gap it is the same how a piece would stand
gap_same : (m : ℕ) (s t : Stand) (r : Bool) (xs : List Item) → gap_next r xs ≡ true
    → strip_room m s r xs ≡ strip_room m t r xs
gap_same m s t r [] g = refl
gap_same m s t r (Gap n ∷ xs) g = refl
gap_same m s t true (Sound p ∷ xs) g = cc
gap_same m s t false (Sound p ∷ xs) g = cc

rough_first : (m : ℕ) (r : Bool) (p : Piece) (xs : List Item) → is_full m p ≡ false
    → (strip_room m First r (Sound p ∷ xs) ≤ piece_len p + m + strip_room m Within r xs)
    × (strip_room m Within r xs ≤ strip_room m First r (Sound p ∷ xs))
rough_first m r p xs e = elim (cases_Bool (gap_next r xs)) [
  | inl g ↦ elim (cases_Bool (is_whole p)) [
    | inl w ↦ let k = gap_same m Behind Within r xs g in rw (e, g, w) (omega arith, omega arith)
    | inr w ↦ rw (e, g, w) (omega arith, omega arith)
  ]
  | inr g ↦ rw (e, g) (omega arith, omega arith)
]

rough_most : (m : ℕ) (s : Stand) (r : Bool) (p : Piece) (xs : List Item) → is_full m p ≡ false
    → strip_room m s r (Sound p ∷ xs) ≤ piece_len p + spare m s + strip_room m Within r xs
rough_most m First r p xs e = (rough_first m r p xs e).0
rough_most m Behind r p xs e = rw e (omega arith)
rough_most m Within r p xs e = rw e (omega arith)

rough_least : (m : ℕ) (s : Stand) (r : Bool) (p : Piece) (xs : List Item) → is_full m p ≡ false
    → strip_room m Within r xs ≤ strip_room m s r (Sound p ∷ xs)
rough_least m First r p xs e = (rough_first m r p xs e).1
rough_least m Behind r p xs e = rw e (omega arith)
rough_least m Within r p xs e = rw e (omega arith)

-- how much it may matter how the first piece stands
within_most : (m : ℕ) (s : Stand) (r : Bool) (xs : List Item) → ItemsShort m xs
    → strip_room m Within r xs ≤ strip_room m s r xs + m
within_most m s r [] h = omega arith
within_most m s r (Gap n ∷ xs) h = omega arith
within_most m s r (Sound p ∷ xs) h = elim (cases_Bool (is_full m p)) [
  | inl e ↦ omega (arith, full_room m Within r p xs e, full_room m s r p xs e)
  | inr e ↦ omega (arith, rough_most m Within r p xs e, rough_least m s r p xs e, h.0)
]

behind_most : (m : ℕ) (r : Bool) (xs : List Item) → strip_room m Behind r xs ≤ strip_room m Within r xs + 2 * m
behind_most m r [] = omega arith
behind_most m r (Gap n ∷ xs) = omega arith
behind_most m r (Sound p ∷ xs) =
    elim (cases_Bool (is_full m p)) [ inl e ↦ rw e (omega arith) | inr e ↦ rw e (omega arith) ]

-- the second of two strips has at most so much room, however its first piece stands
same_flag : (m : ℕ) (s : Stand) (r q : Bool) (p : Piece) (b : ℕ) (xs ys : List Item) → gap_next r xs ≡ gap_next q ys
    → ((t : Stand) → strip_room m t r xs ≤ strip_room m t q ys + b)
    → strip_room m s r (Sound p ∷ xs) ≤ strip_room m s q (Sound p ∷ ys) + b
same_flag m s r q p b xs ys g h = elim (cases_Bool (is_full m p || ((is_first s && gap_next q ys) && is_whole p))) [
  | inl e ↦ rw (g, e) (omega (arith, h Behind))
  | inr e ↦ rw (g, e) (omega (arith, h Within))
]

last_piece : (m : ℕ) (s : Stand) (r : Bool) (p : Piece) (b : ℕ) (ys : List Item)
    → ((t : Stand) → strip_room m t r ys ≤ b)
    → strip_room m s r (Sound p ∷ ys) ≤ strip_room m s false (Sound p ∷ []) + b
last_piece m s r p b ys h = elim (cases_Bool (is_full m p)) [
  | inl e ↦ omega (arith, full_room m s r p ys e, full_room m s false p [] e, h Behind)
  | inr e ↦ omega (arith, rough_most m s r p ys e, lone m s p e, h Within)
]
  where
    lone : (m : ℕ) (s : Stand) (p : Piece) → is_full m p ≡ false
        → piece_len p + spare m s ≤ strip_room m s false (Sound p ∷ [])
    lone m First p e = rw e (omega arith)
    lone m Behind p e = rw e (omega arith)
    lone m Within p e = rw e (omega arith)

pub room-append : (m : ℕ) (s : Stand) (r : Bool) (b : ℕ) (xs ys : List Item) → ((t : Stand) → strip_room m t r ys ≤ b)
    → strip_room m s r (xs ++ ys) ≤ strip_room m s false xs + b
room-append m s r b [] ys h = omega (arith, h s)
room-append m s r b (Gap n ∷ xs) ys h = room-append m First r b xs ys h
room-append m s r b (Sound p ∷ []) ys h = last_piece m s r p b ys h
room-append m s r b (Sound p ∷ Gap n ∷ xs) ys h =
    same_flag m s r false p b (Gap n ∷ xs ++ ys) (Gap n ∷ xs) refl (λ t. room-append m t r b (Gap n ∷ xs) ys h)
room-append m s r b (Sound p ∷ Sound q ∷ xs) ys h =
    same_flag m s r false p b (Sound q ∷ xs ++ ys) (Sound q ∷ xs) refl (λ t. room-append m t r b (Sound q ∷ xs) ys h)

pub room_only_gap : (m : ℕ) (s : Stand) (r : Bool) (n : ℕ) → strip_room m s r (gap_items n) ≡ 0
room_only_gap m s r zero = refl
room_only_gap m s r (suc n) = refl

-- one item
one_item : (m : ℕ) (s : Stand) (r : Bool) (x : Item) → ItemShort m x → strip_room m s r (x ∷ []) ≤ 3 * m
one_item m s r (Gap n) h = omega arith
one_item m s r (Sound p) h = elim (cases_Bool (is_full m p)) [
  | inl e ↦ omega (arith, full_room m s r p [] e, taken_most m s)
  | inr e ↦ omega (arith, rough_most m s r p [] e, spare_most m s, h)
]

cons_front : (m : ℕ) (s : Stand) (r : Bool) (x : Item) (ps qs : List Item) → gap_next false ps ≡ gap_next r qs
    → ((t : Stand) → strip_room m t false ps ≤ strip_room m t r qs + 3 * m)
    → strip_room m s false (x ∷ ps) ≤ strip_room m s r (x ∷ qs) + 3 * m
cons_front m s r (Gap n) ps qs e h = h First
cons_front m s r (Sound p) ps qs e h = same_flag m s false r p (3 * m) ps qs e h

-- the front of a strip
pub room_front : (m : ℕ) (s : Stand) (r : Bool) (n : ℕ) (xs : List Item) → AreItems xs → ItemsShort m xs
    → strip_room m s false (part_items 0 n xs) ≤ strip_room m s r xs + 3 * m
room_front m s r zero xs v w = rw (part_none 0 xs) (omega arith)
room_front m s r (suc n) [] v w = omega arith
room_front m s r (suc n) (x ∷ xs) v w = elim (cases_lt (suc n) (item_len x)) [
  | inl a ↦
      let k : min (suc n) (item_len x - 0) ≡ suc n = omega arith in
      let z : suc n - suc n ≡ 0 = omega arith in
      let e : part_items 0 (suc n) (x ∷ xs) ≡ part_of_item 0 (suc n) x ∷ [] =
      part_within 0 (suc n) x xs (omega arith) (omega arith) ∙ rw (k, z, part_none) refl in
      rw e (omega (arith, one_item m s false (part_of_item 0 (suc n) x) (short_part m 0 (suc n) x (omega arith) w.0)))
  | inr a ↦
      let k : min (suc n) (item_len x - 0) ≡ item_len x = omega arith in
      let e : part_items 0 (suc n) (x ∷ xs) ≡ x ∷ part_items 0 (suc n - item_len x) xs =
      part_within 0 (suc n) x xs (omega arith) (item_some x v.0) ∙ rw (k, part_whole x v.0) refl in
      rw e (go m s r x (suc n - item_len x) xs v.1 w.0 (λ t. room_front m t r (suc n - item_len x) xs v.1 w.1))
]
  where
    go : (m : ℕ) (s : Stand) (r : Bool) (x : Item) (n : ℕ) (xs : List Item) → AreItems xs → ItemShort m x
        → ((t : Stand) → strip_room m t false (part_items 0 n xs) ≤ strip_room m t r xs + 3 * m)
        → strip_room m s false (x ∷ part_items 0 n xs) ≤ strip_room m s r (x ∷ xs) + 3 * m
    go m s r x zero xs v w f = rw (part_none 0 xs) (omega (arith, one_item m s false x w))
    go m s r x (suc n) [] v w f = omega (arith, one_item m s false x w)
    go m s r x (suc n) (y ∷ ys) v w f =
        cons_front m s r x (part_items 0 (suc n) (y ∷ ys)) (y ∷ ys)
        (same_next r (suc n) y ys (omega arith) (item_some y v.0)) f

-- the end of a strip, where so much is given
back_past : (m e : ℕ) (s t : Stand) (r : Bool) (x : Item) (ps xs : List Item)
    → ((i : Stand) → strip_room m s r ps ≤ strip_room m i r xs + e)
    → strip_room m s r ps ≤ strip_room m t r (x ∷ xs) + e
back_past m e s t r (Gap n) ps xs h = h First
back_past m e s t r (Sound p) ps xs h = elim (cases_Bool (is_full m p)) [
  | inl k ↦ omega (arith, full_room m t r p xs k, h Behind)
  | inr k ↦ omega (arith, rough_least m t r p xs k, h Within)
]

back_within : (m e : ℕ) (s t : Stand) (r : Bool) (skip k : ℕ) (x : Item) (xs : List Item) → skip + k ≤ item_len x
    → ItemShort m x → ItemsShort m xs
    → spare m s + 2 * m ≤ e → 3 * m ≤ e → strip_room m s r (part_of_item skip k x ∷ xs) ≤ strip_room m t r (x ∷ xs) + e
back_within m e s t r skip k (Gap n) xs l v w a b = omega arith
back_within m e s t r skip k (Sound p) xs l v w a b =
    let q = part_of skip k p in
    let f = within_most m Behind r xs w in
    let g = behind_most m r xs in
    let n = piece_len-part skip k p in
    elim (cases_Bool (is_full m q)) [
      | inl i ↦ elim (cases_Bool (is_full m p)) [
        | inl j ↦ omega (arith, full_room m s r q xs i, taken_most m s, full_room m t r p xs j)
        | inr j ↦ omega (arith, full_room m s r q xs i, taken_most m s, rough_least m t r p xs j, g)
      ]
      | inr i ↦ elim (cases_Bool (is_full m p)) [
        | inl j ↦ omega (arith, rough_most m s r q xs i, n, full_room m t r p xs j, f)
        | inr j ↦ omega (arith, rough_most m s r q xs i, n, rough_least m t r p xs j)
      ]
    ]

pub room_back : (m e : ℕ) (s t : Stand) (r : Bool) (skip left : ℕ) (xs : List Item) → AreItems xs → ItemsShort m xs
    → strip_len xs ≤ skip + left
    → spare m s + 2 * m ≤ e → 3 * m ≤ e → strip_room m s r (part_items skip left xs) ≤ strip_room m t r xs + e
room_back m e s t r skip zero xs v w h a b = rw (part_none skip xs) (omega arith)
room_back m e s t r skip (suc left) [] v w h a b = omega arith
room_back m e s t r skip (suc left) (x ∷ xs) v w h a b = elim (cases_lt skip (item_len x)) [
  | inl c ↦
      let k = min (suc left) (item_len x - skip) in
      let i : part_items skip (suc left) (x ∷ xs) ≡ part_of_item skip k x ∷ xs =
      part_within skip (suc left) x xs (omega arith) c
      ∙ ap (λ ys. part_of_item skip k x ∷ ys) (part_all (suc left - k) xs v.1 (omega arith)) in
      rw i (back_within m e s t r skip k x xs (omega arith) w.0 w.1 a b)
  | inr c ↦
      rw (part_past skip (suc left) x xs (omega arith) c) (
      back_past m e s t r x (part_items (skip - item_len x) (suc left) xs) xs
      (λ i. room_back m e s i r (skip - item_len x) (suc left) xs v.1 w.1 (omega arith) a b))
]

-- a strip with nothing to lay out anew needs no room
pub no_room : (m : ℕ) (s : Stand) (r : Bool) (xs : List Item) → taken m s ≡ 0 → rough_items m (is_first s) r xs ≡ 0
    → strip_room m s r xs ≡ 0
no_room m s r [] k h = refl
no_room m s r (Gap n ∷ xs) k h = no_room m First r xs refl h
no_room m s r (Sound p ∷ xs) k h = elim (cases_Bool (is_full m p || ((is_first s && gap_next r xs) && is_whole p))) [
  | inl e ↦ rw e (omega (arith, k, no_room m Behind r xs refl (omega arith)))
  | inr e ↦ absurd (some _ (rw e at h))
]
  where
    some : (n : ℕ) → 1 + n ≡ 0 → ⊥
    some n e = omega arith
