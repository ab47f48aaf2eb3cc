-- Parts that are written one after another.
use Rattle.record_body.proofs.Common.{◌≡◌, ℕ, zero, suc, ◌+◌, ◌-◌, ◌*◌, ◌≤◌, ◌<◌, min, List, [], ◌∷◌, ◌++◌, length, take, drop, get_or, refl}
use Rattle.record_body.proofs.Common.{sym, ap, ◌∙◌, arith, length-append, append-nil, take_more, drop_more, flat_map}
use Rattle.record_body.proofs.Common.{BlockRef, NoneEmpty, blocks_len, Clip, AreClips, clip_end, end_of, block_bytes}
use Rattle.record_body.proofs.Common.{clip_bytes}
use Rattle.std.proofs.{lemmas.Grind.flat_map-append, lemmas.Slice.take-put_mid}
use borrow.Rule.Slice.PartMut.{put_mid}

-- the parts so far are written, and there is room for those that are left
pub record Written {X : Type 0} (f : X → List ℕ) (xs : List X) (i at : ℕ) (out : List ℕ) : Type 0 where
  pub written : take at out ≡ flat_map f (take i xs)
  pub room : at + length (flat_map f (drop i xs)) ≡ length out

module _ {X : Type 0} (f : X → List ℕ) (xs : List X) where
  pub parts_more : (i : ℕ) (x : X) → take (i + 1) xs ≡ take i xs ++ x ∷ []
      → flat_map f (take (i + 1) xs) ≡ flat_map f (take i xs) ++ f x
  parts_more i x e = search (arith, flat_map-append, append-nil)

  -- one part more is written
  pub part_written : (i k at : ℕ) (out part : List ℕ) (x : X) → take (i + 1) xs ≡ take i xs ++ x ∷ []
      → at ≤ length out → take at out ≡ flat_map f (take i xs) → part ≡ f x
      → (end : ℕ) → end ≡ at + length part
      → take end (put_mid at k out part) ≡ flat_map f (take (i + 1) xs)
  part_written i k at out part x e le before here end same = search (arith, take-put_mid, parts_more)

  -- the parts that are left
  pub parts_left : (i : ℕ) (x : X) → drop i xs ≡ x ∷ drop (i + 1) xs
      → length (flat_map f (drop i xs)) ≡ length (f x) + length (flat_map f (drop (i + 1) xs))
  parts_left i x e = ap (λ (ys : List X). length (flat_map f ys)) e ∙ length-append (f x) (flat_map f (drop (i + 1) xs))

  pub part_next : (i k at end : ℕ) (out part : List ℕ) (x : X) → take (i + 1) xs ≡ take i xs ++ x ∷ []
      → drop i xs ≡ x ∷ drop (i + 1) xs → Written f xs i at out → part ≡ f x → end ≡ at + length (f x)
      → length (put_mid at k out part) ≡ length out → Written f xs (i + 1) end (put_mid at k out part)
  part_next i k at end out part x taken left so here ends same = search (arith, part_written, parts_left)

pub length_blocks : (bs : List BlockRef) → length (flat_map block_bytes bs) ≡ 12 * length bs
length_blocks [] = refl
length_blocks (b ∷ bs) = omega (arith, length_blocks bs)

pub length_clip : (c : Clip) → length (clip_bytes c) ≡ 12 + 12 * length c.blocks
length_clip c = omega (arith, length_blocks c.blocks)

-- no block is empty, so there are no more blocks than samples
pub blocks_few : (bs : List BlockRef) → NoneEmpty bs → length bs ≤ blocks_len bs
blocks_few [] h = omega arith
blocks_few (b ∷ bs) h = omega (arith, h.0, blocks_few bs h.1)

-- a clip has at most 24 bytes a sample
pub clips_few : (at from : ℕ) (cs : List Clip) → at ≤ from → AreClips from cs
    → length (flat_map clip_bytes cs) + 24 * at ≤ 24 * end_of at cs
clips_few at from [] h a = omega arith
clips_few at from (c ∷ cs) h a =
    search (arith, clips_few (clip_end c) (clip_end c + 1) cs, blocks_few, length-append, length_clip)

-- parts of two lists, one after the other
pub take_over : {X : Type 0} (n k : ℕ) (xs ys : List X) → k ≡ min n (length xs)
    → take n (xs ++ ys) ≡ take k xs ++ take (n - k) ys
take_over zero k xs ys e =
    let z : k ≡ 0 = omega (arith, e) in
    rw z refl
take_over (suc n) k [] ys e =
    let z : k ≡ 0 = omega (arith, e) in
    let same : suc n ≡ suc n - 0 = omega arith in
    rw z (ap (λ m. take m ys) same)
take_over (suc n) zero (x ∷ xs) ys e = absurd (omega (arith, e))
take_over (suc n) (suc k) (x ∷ xs) ys e =
    let less : n - k ≡ suc n - suc k = omega arith in
    ap (λ zs. x ∷ zs) (take_over n k xs ys (omega (arith, e)) ∙ ap (λ m. take k xs ++ take m ys) less)

pub drop_over : {X : Type 0} (n k : ℕ) (xs ys : List X) → k ≡ min n (length xs)
    → drop n (xs ++ ys) ≡ drop k xs ++ drop (n - k) ys
drop_over zero k xs ys e =
    let z : k ≡ 0 = omega (arith, e) in
    rw z refl
drop_over (suc n) k [] ys e =
    let z : k ≡ 0 = omega (arith, e) in
    let same : suc n ≡ suc n - 0 = omega arith in
    rw z (ap (λ m. drop m ys) same)
drop_over (suc n) zero (x ∷ xs) ys e = absurd (omega (arith, e))
drop_over (suc n) (suc k) (x ∷ xs) ys e =
    let less : n - k ≡ suc n - suc k = omega arith in
    drop_over n k xs ys (omega (arith, e)) ∙ ap (λ m. drop k xs ++ drop m ys) less

-- the item at a place
pub take_here : {X : Type 0} (xs : List X) (i : ℕ) (x : X) → i < length xs → x ≡ get_or xs i x
    → take (i + 1) xs ≡ take i xs ++ x ∷ []
take_here {X} xs i x lt e = take_more xs i x lt ∙ ap (λ (y : X). take i xs ++ y ∷ []) (sym e)

pub drop_here : {X : Type 0} (xs : List X) (i : ℕ) (x : X) → i < length xs → x ≡ get_or xs i x
    → drop i xs ≡ x ∷ drop (i + 1) xs
drop_here {X} xs i x lt e = drop_more xs i x lt ∙ ap (λ (y : X). y ∷ drop (i + 1) xs) (sym e)
