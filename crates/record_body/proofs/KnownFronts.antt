-- Blocks that two lists are known to begin with.
use Rattle.record_body.proofs.Common.{◌≡◌, ℕ, zero, suc, ◌-◌, ◌≤◌, ◌==◌, ◌&&◌, Bool, true, List, [], ◌∷◌, ◌++◌, length}
use Rattle.record_body.proofs.Common.{get_or, take, drop, Option, Some, None, refl, sym, ap, ap₂, ◌∙◌, arith, subst}
use Rattle.record_body.proofs.Common.{append-nil, append_assoc, length-append, eq-eqb, eqb-true, take_all, BlockRef}
use Rattle.record_body.proofs.Common.{Clip, common, layout_blocks, last_blocks, same_clip, same_clips}
use Rattle.std.specs.Prelude.{is_some, IfSome}
use Rattle.record_body.proofs.ChangeLaws.{both, clips_same, same_refl}
use Rattle.record_body.specs.Changes.{front_clips, same_blocks}
use Rattle.record_body.specs.Choices.{HasFront}

-- lists with the same front
pub of_take : (n : ℕ) (xs ys : List BlockRef) → take n xs ≡ take n ys → HasFront n xs ys
of_take zero xs ys e = tt
of_take (suc n) [] ys e = tt
of_take (suc n) (x ∷ xs) [] e = tt
of_take (suc n) (x ∷ xs) (y ∷ ys) e =
    (ap (λ (zs : List BlockRef). get_or zs 0 x) e, of_take n xs ys (ap (drop 1) e))

-- fewer blocks, of which both have all
pub to_take : (k n : ℕ) (xs ys : List BlockRef) → k ≤ n → k ≤ length xs → k ≤ length ys → HasFront n xs ys
    → take k xs ≡ take k ys
to_take zero n xs ys less x y h = refl
to_take (suc k) zero xs ys less x y h = absurd (omega (arith, less))
to_take (suc k) (suc n) [] ys less x y h = absurd (omega (arith, x))
to_take (suc k) (suc n) (a ∷ xs) [] less x y h = absurd (omega (arith, y))
to_take (suc k) (suc n) (a ∷ xs) (b ∷ ys) less x y h =
    ap₂ (λ (c : BlockRef) (l : List BlockRef). c ∷ l) h.0
    (to_take k n xs ys (omega (arith, less)) (omega (arith, x)) (omega (arith, y)) h.1)

-- lists that go on
front_of : (n : ℕ) (xs ys us vs : List BlockRef) → HasFront n (xs ++ us) (ys ++ vs) → HasFront n xs ys
front_of zero xs ys us vs h = tt
front_of (suc n) [] ys us vs h = tt
front_of (suc n) (x ∷ xs) [] us vs h = tt
front_of (suc n) (x ∷ xs) (y ∷ ys) us vs h = (h.0, front_of n xs ys us vs h.1)

-- so many, by another name
pub known_at : (k n : ℕ) (xs ys : List BlockRef) → n ≡ k → HasFront n xs ys → HasFront k xs ys
known_at k n xs ys e h = subst (λ (i : ℕ). HasFront i xs ys) e h

-- what is left after as many blocks of both
front_past : (n : ℕ) (xs ys us vs : List BlockRef) → length xs ≡ length ys → HasFront n (xs ++ us) (ys ++ vs)
    → HasFront (n - length xs) us vs
front_past zero xs ys us vs e h = known_at (0 - length xs) 0 us vs (omega arith) tt
front_past (suc n) [] [] us vs e h = known_at (suc n - 0) (suc n) us vs (omega arith) h
front_past (suc n) [] (y ∷ ys) us vs e h = absurd (omega (arith, e))
front_past (suc n) (x ∷ xs) [] us vs e h = absurd (omega (arith, e))
front_past (suc n) (x ∷ xs) (y ∷ ys) us vs e h =
    known_at (suc n - length (x ∷ xs)) (n - length xs) us vs (omega arith)
    (front_past n xs ys us vs (omega (arith, e)) h.1)

-- blocks that are all known
pub known_same : (n : ℕ) (xs ys : List BlockRef) → length xs ≡ length ys → length xs ≤ n → HasFront n xs ys
    → same_blocks xs ys ≡ true
known_same n xs ys e less h =
    let all : take (length xs) xs ≡ take (length xs) ys =
    to_take (length xs) n xs ys less (omega arith) (omega (arith, e)) h in
    let same : xs ≡ ys =
    sym (take_all (length xs) xs (omega arith)) ∙ all ∙ take_all (length xs) ys (omega (arith, e)) in
    subst (λ (zs : List BlockRef). same_blocks xs zs ≡ true) same (search (arith, same_refl xs, eq-eqb))

-- ---- the clips that are left

begun : (n : ℕ) (c d : Clip) (cs ds us vs : List Clip) → us ≡ c ∷ cs → vs ≡ d ∷ ds
    → HasFront n (layout_blocks us) (layout_blocks vs)
    → HasFront n (c.blocks ++ layout_blocks cs) (d.blocks ++ layout_blocks ds)
begun n c d cs ds us vs u v h =
    subst (λ (xs : List Clip). HasFront n (layout_blocks xs) (layout_blocks (d ∷ ds))) u
    (subst (λ (ys : List Clip). HasFront n (layout_blocks us) (layout_blocks ys)) v h)

-- the first of them
pub clip_front : (n : ℕ) (c d : Clip) (cs ds us vs : List Clip) → us ≡ c ∷ cs → vs ≡ d ∷ ds
    → HasFront n (layout_blocks us) (layout_blocks vs) → HasFront n c.blocks d.blocks
clip_front n c d cs ds us vs u v h =
    front_of n c.blocks d.blocks (layout_blocks cs) (layout_blocks ds) (begun n c d cs ds us vs u v h)

same_count : (c d : Clip) → same_clip c d ≡ true → length c.blocks ≡ length d.blocks
same_count c d e =
    let blocks = both (c.start == d.start) (same_blocks c.blocks d.blocks) e in
    let is =
    both (length c.blocks == length d.blocks) (common c.blocks d.blocks == length c.blocks) blocks.second in
    eqb-true (length c.blocks) (length d.blocks) is.first

-- those after it
pub clips_past : (n : ℕ) (c d : Clip) (cs ds us vs : List Clip) → us ≡ c ∷ cs → vs ≡ d ∷ ds → same_clip c d ≡ true
    → HasFront n (layout_blocks us) (layout_blocks vs)
    → HasFront (n - length c.blocks) (layout_blocks cs) (layout_blocks ds)
clips_past n c d cs ds us vs u v e h =
    front_past n c.blocks d.blocks (layout_blocks cs) (layout_blocks ds) (same_count c d e)
    (begun n c d cs ds us vs u v h)

-- they decide, where the first is the same
pub same_past : (c d : Clip) (cs ds us vs : List Clip) → us ≡ c ∷ cs → vs ≡ d ∷ ds → same_clip c d ≡ true
    → same_clips cs ds ≡ same_clips us vs
same_past c d cs ds us vs u v e =
    sym (ap₂ same_clips u v ∙ ap (λ (b : Bool). b && same_clips cs ds) e)

pub less_past : (n : ℕ) (c : Clip) (cs us : List Clip) → us ≡ c ∷ cs
    → (n - length c.blocks) - length (layout_blocks cs) ≡ n - length (layout_blocks us)
less_past n c cs us u = omega (
  arith,
  ap (λ (xs : List Clip). length (layout_blocks xs)) u,
  length-append c.blocks (layout_blocks cs),
)

-- ---- all clips but the last

pub front_more : (x z : Clip) (xs : List Clip) → front_clips (x ∷ z ∷ xs) ≡ x ∷ front_clips (z ∷ xs)
front_more x z xs =
    let more : length (x ∷ z ∷ xs) - 1 ≡ suc (length (z ∷ xs) - 1) = omega arith in
    ap (λ n. take n (x ∷ z ∷ xs)) more

last_apart : (cs : List Clip) → layout_blocks cs ≡ layout_blocks (front_clips cs) ++ last_blocks cs
last_apart [] = refl
last_apart (c ∷ []) = append-nil c.blocks
last_apart (c ∷ d ∷ cs) =
    ap (λ (bs : List BlockRef). c.blocks ++ bs) (last_apart (d ∷ cs))
    ∙ sym (append_assoc c.blocks (layout_blocks (front_clips (d ∷ cs))) (last_blocks (d ∷ cs)))
    ∙ ap (λ (ds : List Clip). layout_blocks ds ++ last_blocks (d ∷ cs)) (sym (front_more c d cs))

apart : (n : ℕ) (xs ys : List Clip) → HasFront n (layout_blocks xs) (layout_blocks ys)
    → HasFront n (layout_blocks (front_clips xs) ++ last_blocks xs) (layout_blocks (front_clips ys) ++ last_blocks ys)
apart n xs ys h =
    subst (λ (bs : List BlockRef). HasFront n bs (layout_blocks (front_clips ys) ++ last_blocks ys)) (last_apart xs)
    (subst (λ (bs : List BlockRef). HasFront n (layout_blocks xs) bs) (last_apart ys) h)

pub clips_front : (n : ℕ) (xs ys : List Clip) → HasFront n (layout_blocks xs) (layout_blocks ys)
    → HasFront n (layout_blocks (front_clips xs)) (layout_blocks (front_clips ys))
clips_front n xs ys h =
    front_of n (layout_blocks (front_clips xs)) (layout_blocks (front_clips ys)) (last_blocks xs) (last_blocks ys)
    (apart n xs ys h)

last_front : (n : ℕ) (xs ys : List Clip) → front_clips xs ≡ front_clips ys
    → HasFront n (layout_blocks xs) (layout_blocks ys)
    → HasFront (n - length (layout_blocks (front_clips xs))) (last_blocks xs) (last_blocks ys)
last_front n xs ys e h =
    front_past n (layout_blocks (front_clips xs)) (layout_blocks (front_clips ys)) (last_blocks xs) (last_blocks ys)
    (ap (λ (cs : List Clip). length (layout_blocks cs)) e) (apart n xs ys h)

-- what is left for the last clip
pub last_known : (r : Option ℕ) (n : ℕ) (xs ys : List Clip)
    → is_some r ≡ same_clips (front_clips xs) (front_clips ys)
    → IfSome r (λ k. k ≡ n - length (layout_blocks (front_clips xs)))
    → HasFront n (layout_blocks xs) (layout_blocks ys)
    → IfSome r (λ k. HasFront k (last_blocks xs) (last_blocks ys))
last_known None n xs ys is left h = tt
last_known (Some k) n xs ys is left h =
    known_at k (n - length (layout_blocks (front_clips xs))) (last_blocks xs) (last_blocks ys) (sym left)
    (last_front n xs ys (clips_same (front_clips xs) (front_clips ys) (sym is)) h)
