-- One turn of a loop over what has blocks.
use Rattle.layout_uses.proofs.Common.{◌≡◌, refl, sym, ap, ◌∙◌, subst, ℕ, zero, suc, ◌+◌, ◌^◌, ◌≤◌, ◌<◌, List, [], ◌∷◌}
use Rattle.layout_uses.proofs.Common.{◌++◌, take, drop, append_assoc, take-append-drop, slice_get, Some, IsSome, arith}
use Rattle.layout_uses.proofs.Common.{append-nil, flat_map-append, BlockRef, occurrences, Clip, ids_of, map-append}
use Rattle.layout_uses.proofs.Common.{layout_blocks, take_some, AreSingle, HasIds, Names, RowsState, Unnames, counts_of}
use Rattle.layout_uses.proofs.Common.{singles_of}
use Rattle.std.proofs.Common.{flat_map}
use Rattle.block_sequence.specs.Rows.{flat}
use Rattle.layout_uses.proofs.Times.{unnames_append, single_rest, single_left, names_append, there_rest, there_left, Few}
use Rattle.layout_uses.proofs.Times.{few_rest, few_left, named_same}

module _ {X : Type 0} (f : X → List BlockRef) (xs : List X) (i : ℕ) (x : X) (here : slice_get xs i ≡ Some x) where
  abbrev front : List BlockRef
  front = flat_map f (take i xs)

  abbrev rest : List BlockRef
  rest = flat_map f (drop (i + 1) xs)

  pub next : flat_map f (take (i + 1) xs) ≡ front ++ f x
  next = ap (flat_map f) (take_some xs i x here) ∙ flat_map-append f (take i xs) (x ∷ [])
      ∙ ap (λ (z : List BlockRef). front ++ z) (append-nil (f x))

  pub split : flat_map f xs ≡ front ++ (f x ++ rest)
  split =
      ap (flat_map f) (sym (take-append-drop (i + 1) xs)) ∙ flat_map-append f (take (i + 1) xs) (drop (i + 1) xs)
      ∙ ap (λ (z : List BlockRef). z ++ rest) next ∙ append_assoc front (f x) rest

  module _ (o m : RowsState) where
    pub all_here : AreSingle o (flat_map f xs) → Unnames o m front → AreSingle m (f x)
    all_here all was =
        single_left m (f x) rest (single_rest o m front (f x ++ rest) (subst (AreSingle o) split all) was)

    pub unnamed_on : (n : RowsState) → Unnames o m front → Unnames m n (f x)
        → Unnames o n (flat_map f (take (i + 1) xs))
    unnamed_on n was more = subst (Unnames o n) (sym next) (unnames_append o m n front (f x) was more)

    pub there_here : HasIds (counts_of o) (flat_map f xs) → Names o m front → HasIds (counts_of m) (f x)
    there_here all was = there_left (counts_of m) (f x) rest
        (there_rest (counts_of o) (counts_of m) front (f x ++ rest) (subst (HasIds (counts_of o)) split all) was.held)

    pub few_here : Few (counts_of o) (flat_map f xs) → Names o m front → Few (counts_of m) (f x)
    few_here all was = few_left (counts_of m) (f x) rest
        (few_rest (counts_of o) (counts_of m) front (f x ++ rest) (subst (Few (counts_of o)) split all) was.held)

    pub named_on : (n : RowsState) → Names o m front → Names m n (f x) → Names o n (flat_map f (take (i + 1) xs))
    named_on n was more = subst (Names o n) (sym next) (names_append o m n front (f x) was more)

  -- the ids so far, and those of one element more
  pub ids_on : (before mid after : List ℕ) → mid ≡ before ++ ids_of front → after ≡ mid ++ ids_of (f x)
      → after ≡ before ++ ids_of (flat_map f (take (i + 1) xs))
  ids_on before mid after was more =
      more ∙ ap (λ (z : List ℕ). z ++ ids_of (f x)) was ∙ append_assoc before (ids_of front) (ids_of (f x))
      ∙ ap (λ (z : List ℕ). before ++ z) (sym (map-append (λ (b : BlockRef). b.id) front (f x)) ∙ ap ids_of (sym next))

-- blocks themselves
pub single : (bs : List BlockRef) → flat_map (λ (b : BlockRef). b ∷ []) bs ≡ bs
single [] = refl
single (b ∷ bs) = ap (λ (z : List BlockRef). b ∷ z) (single bs)

-- the rows of a clip
pub rows_flat : (rs : List (List BlockRef)) → flat rs ≡ flat_map (λ (r : List BlockRef). r) rs
rows_flat [] = refl
rows_flat (r ∷ rs) = ap (λ (z : List BlockRef). r ++ z) (rows_flat rs)

-- the clips of a layout
pub layout_flat : (cs : List Clip) → layout_blocks cs ≡ flat_map (λ (c : Clip). c.blocks) cs
layout_flat [] = refl
layout_flat (c ∷ cs) = ap (λ (z : List BlockRef). c.blocks ++ z) (layout_flat cs)

-- ids that are put after others, block by block, row by row and clip by clip
pub ids_blocks : (bs : List BlockRef) (i : ℕ) (b : BlockRef) (before mid after : List ℕ) → slice_get bs i ≡ Some b
    → mid ≡ before ++ ids_of (take i bs) → after ≡ mid ++ b.id ∷ [] → after ≡ before ++ ids_of (take (i + 1) bs)
ids_blocks bs i b before mid after here was more =
    subst (λ (z : List BlockRef). after ≡ before ++ ids_of z) (single (take (i + 1) bs))
    (ids_on (λ (x : BlockRef). x ∷ []) bs i b here before mid after
    (subst (λ (z : List BlockRef). mid ≡ before ++ ids_of z) (sym (single (take i bs))) was) more)

pub ids_rows : (rs : List (List BlockRef)) (i : ℕ) (r : List BlockRef) (before mid after : List ℕ)
    → slice_get rs i ≡ Some r → mid ≡ before ++ ids_of (flat (take i rs)) → after ≡ mid ++ ids_of r
    → after ≡ before ++ ids_of (flat (take (i + 1) rs))
ids_rows rs i r before mid after here was more =
    subst (λ (z : List BlockRef). after ≡ before ++ ids_of z) (sym (rows_flat (take (i + 1) rs)))
    (ids_on (λ (x : List BlockRef). x) rs i r here before mid after
    (subst (λ (z : List BlockRef). mid ≡ before ++ ids_of z) (rows_flat (take i rs)) was) more)

pub ids_clips : (cs : List Clip) (i : ℕ) (c : Clip) (before mid after : List ℕ) → slice_get cs i ≡ Some c
    → mid ≡ before ++ ids_of (layout_blocks (take i cs)) → after ≡ mid ++ ids_of c.blocks
    → after ≡ before ++ ids_of (layout_blocks (take (i + 1) cs))
ids_clips cs i c before mid after here was more =
    subst (λ (z : List BlockRef). after ≡ before ++ ids_of z) (sym (layout_flat (take (i + 1) cs)))
    (ids_on (λ (x : Clip). x.blocks) cs i c here before mid after
    (subst (λ (z : List BlockRef). mid ≡ before ++ ids_of z) (layout_flat (take i cs)) was) more)

-- the next block is named by itself
pub next_single : (bs : List BlockRef) (i : ℕ) (b : BlockRef) (o m : RowsState) → slice_get bs i ≡ Some b
    → AreSingle o bs → Unnames o m (take i bs) → AreSingle m (b ∷ [])
next_single bs i b o m here all was =
    all_here (λ (x : BlockRef). x ∷ []) bs i b here o m (subst (AreSingle o) (sym (single bs)) all)
    (subst (Unnames o m) (sym (single (take i bs))) was)

pub single_one : (b : BlockRef) (m : RowsState) → AreSingle m (b ∷ []) → 0 < singles_of m b.id
single_one b m is = omega (arith, is.singles b.id, named_same b b.id refl)

pub single_occurs : (b : BlockRef) (m : RowsState) → AreSingle m (b ∷ []) → 0 < occurrences (counts_of m b.id)
single_occurs b m is = omega (arith, is.all b.id, named_same b b.id refl)

-- it is there, and its count has room
pub next_there : (bs : List BlockRef) (i : ℕ) (b : BlockRef) (o m : RowsState) → slice_get bs i ≡ Some b
    → HasIds (counts_of o) bs → Names o m (take i bs) → IsSome (counts_of m b.id)
next_there bs i b o m here all was =
    let mine = there_here (λ (x : BlockRef). x ∷ []) bs i b here o m (subst (HasIds (counts_of o)) (sym (single bs)) all)
    (subst (Names o m) (sym (single (take i bs))) was) in
    mine b.id (omega (arith, named_same b b.id refl))

pub next_few : (bs : List BlockRef) (i : ℕ) (b : BlockRef) (o m : RowsState) → slice_get bs i ≡ Some b
    → Few (counts_of o) bs → Names o m (take i bs) → occurrences (counts_of m b.id) + 1 < 2 ^ 128
next_few bs i b o m here all was =
    let mine = few_here (λ (x : BlockRef). x ∷ []) bs i b here o m (subst (Few (counts_of o)) (sym (single bs)) all)
    (subst (Names o m) (sym (single (take i bs))) was) in
    omega (arith, mine b.id, named_same b b.id refl)

-- ---- some of the elements, from one place to another

pub take_take : {X : Type 0} (i n : ℕ) (xs : List X) → i ≤ n → take i (take n xs) ≡ take i xs
take_take zero n xs le = refl
take_take (suc i) zero xs le = absurd (omega (arith, le))
take_take (suc i) (suc n) [] le = refl
take_take (suc i) (suc n) (x ∷ xs) le = ap (λ z. x ∷ z) (take_take i n xs (omega (arith, le)))
