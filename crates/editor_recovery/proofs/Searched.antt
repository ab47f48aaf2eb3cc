-- Blocks and rows that were searched bring nothing new, and the tracks of two points of one history agree.
use Rattle.editor_recovery.proofs.Common.{◌≡◌, ◌==◌, ℕ, zero, suc, ◌+◌, Bool, true, false, inl, inr, ◌⊎◌, ⊎_elim, List}
use Rattle.editor_recovery.proofs.Common.{[], ◌∷◌, Option, Some, None, refl, sym, ap, subst, ◌∙◌, arith, eqb-true}
use Rattle.editor_recovery.proofs.Common.{nat_lt, nat_le, ◌&&◌, if◌then◌else◌, slice_get, AllByRecursion, BlockRef}
use Rattle.editor_recovery.proofs.Common.{size_of, Clip, layout_blocks, Track, point_blocks, all_parts, some_is}
use Rattle.editor_recovery.proofs.Common.{AgreesWith, IsUpTo, is_up_to, earlier, one_more, first_wrong, AreSearched}
use Rattle.editor_recovery.proofs.Common.{Contains}
use Rattle.std.proofs.lemmas.Bool.{and_from, or_left, or_right, eq-eqb, lt-ltb, le-leb}
use Rattle.block_sequence.specs.Rows.{flat}
use Rattle.layout_uses.specs.{Laws.AreAmong, Layouts.AreNumbered}
use Rattle.layout_uses.proofs.Numbers.{among_agrees, agrees_one}
use Rattle.editor_recovery.specs.Sizes.{IsSearched}
use Rattle.editor_recovery.proofs.Listed.{contains_cons, contains_none}
use Rattle.editor_recovery.proofs.Wrong.{IsRight, order_trans, earlier_new, earlier_old}

-- ---- one block

up_to_is : (a b : BlockRef) → IsUpTo a b → is_up_to a b ≡ true
up_to_is a b (inl lt) = or_left (nat_lt a.id b.id) (a.id == b.id && nat_le a.len b.len) (lt-ltb a.id b.id lt)
up_to_is a b (inr e) = or_right (nat_lt a.id b.id) (a.id == b.id && nat_le a.len b.len)
    (and_from (a.id == b.id) (nat_le a.len b.len) (eq-eqb a.id b.id e.0) (le-leb a.len b.len e.1))

-- what was found comes before the block, or is it
abbrev Covers : Option BlockRef → BlockRef → Type 0
Covers None b = ⊥
Covers (Some a) b = IsUpTo a b

covered : (sizes : ℕ → ℕ) (found : Option BlockRef) (b : BlockRef) → IsSearched sizes found b
    → IsRight sizes b ⊎ Covers found b
covered sizes found b is = step (sizes b.id == size_of b.len) (eqb-true (sizes b.id) (size_of b.len)) is
  where
    step : (t : Bool) → (t ≡ true → IsRight sizes b) → (if t then found else Some (earlier found b)) ≡ found
        → IsRight sizes b ⊎ Covers found b
    step true right same = inl (right refl)
    step false right same = inr (subst (λ (f : Option BlockRef). Covers f b) same (earlier_new found b))

searched_of : (sizes : ℕ → ℕ) (found : Option BlockRef) (b : BlockRef) → IsRight sizes b ⊎ Covers found b
    → IsSearched sizes found b
searched_of sizes found b (inl right) =
    ap (λ (t : Bool). if t then found else Some (earlier found b)) (eq-eqb (sizes b.id) (size_of b.len) right)
searched_of sizes None b (inr covers) = absurd covers
searched_of sizes (Some a) b (inr up) = step (sizes b.id == size_of b.len)
  where
    step : (t : Bool) → (if t then Some a else Some (earlier (Some a) b)) ≡ Some a
    step true = refl
    step false = rw (up_to_is a b up)

covers_more : (sizes : ℕ → ℕ) (found : Option BlockRef) (c b : BlockRef) → Covers found b
    → Covers (one_more sizes found c) b
covers_more sizes None c b covers = absurd covers
covers_more sizes (Some a) c b up = step (sizes c.id == size_of c.len)
  where
    step : (t : Bool) → Covers (if t then Some a else Some (earlier (Some a) c)) b
    step true = up
    step false = order_trans (earlier (Some a) c) a b (earlier_old a c) up

searched_more : (sizes : ℕ → ℕ) (found : Option BlockRef) (c b : BlockRef) → IsSearched sizes found b
    → IsSearched sizes (one_more sizes found c) b
searched_more sizes found c b is = searched_of sizes (one_more sizes found c) b
    (⊎_elim (λ right. inl right) (λ covers. inr (covers_more sizes found c b covers)) (covered sizes found b is))

searched_one : (sizes : ℕ → ℕ) (found : Option BlockRef) (b : BlockRef) → IsSearched sizes (one_more sizes found b) b
searched_one sizes found b = searched_of sizes (one_more sizes found b) b
    (step (sizes b.id == size_of b.len) (eqb-true (sizes b.id) (size_of b.len)))
  where
    step : (t : Bool) → (t ≡ true → IsRight sizes b)
        → IsRight sizes b ⊎ Covers (if t then found else Some (earlier found b)) b
    step true right = inl (right refl)
    step false right = inr (earlier_new found b)

-- ---- blocks

still_one : (sizes : ℕ → ℕ) (found : Option BlockRef) (cs : List BlockRef) (b : BlockRef) → IsSearched sizes found b
    → IsSearched sizes (first_wrong sizes found cs) b
still_one sizes found [] b is = is
still_one sizes found (c ∷ cs) b is = still_one sizes (one_more sizes found c) cs b (searched_more sizes found c b is)

-- as the search goes on
pub still_searched : (sizes : ℕ → ℕ) (found : Option BlockRef) (cs bs : List BlockRef) → AreSearched sizes found bs
    → AreSearched sizes (first_wrong sizes found cs) bs
still_searched sizes found cs [] all = tt
still_searched sizes found cs (b ∷ bs) all =
    (still_one sizes found cs b all.0, still_searched sizes found cs bs all.1)

-- the blocks that it went through
pub searched_all : (sizes : ℕ → ℕ) (found : Option BlockRef) (bs : List BlockRef)
    → AreSearched sizes (first_wrong sizes found bs) bs
searched_all sizes found [] = tt
searched_all sizes found (b ∷ bs) = (
  still_one sizes (one_more sizes found b) bs b (searched_one sizes found b),
  searched_all sizes (one_more sizes found b) bs,
)

pub nothing_new : (sizes : ℕ → ℕ) (found : Option BlockRef) (bs : List BlockRef) → AreSearched sizes found bs
    → first_wrong sizes found bs ≡ found
nothing_new sizes found [] all = refl
nothing_new sizes found (b ∷ bs) all =
    ap (λ (f : Option BlockRef). first_wrong sizes f bs) all.0 ∙ nothing_new sizes found bs all.1

-- ---- blocks of rows, clips and tracks

pub row_part : (Q : BlockRef → Type 0) (rs : List (List BlockRef)) (i : ℕ) (r : List BlockRef)
    → slice_get rs i ≡ Some r → AllByRecursion Q (flat rs) → AllByRecursion Q r
row_part Q [] i r here all = absurd cc
row_part Q (s ∷ ss) zero r here all =
    let same : s ≡ r = cc in subst (AllByRecursion Q) same (all_parts Q s (flat ss) all).0
row_part Q (s ∷ ss) (suc i) r here all = row_part Q ss i r here (all_parts Q s (flat ss) all).1

pub row_held : (Q : BlockRef → Type 0) (rs : List (List BlockRef)) (r : List BlockRef) → Contains rs r
    → AllByRecursion Q (flat rs) → AllByRecursion Q r
row_held Q [] r has all = absurd (contains_none r has)
row_held Q (s ∷ ss) r has all =
    let parts = all_parts Q s (flat ss) all in
    elim (contains_cons s ss r has)
    [ inl same ↦ subst (AllByRecursion Q) same parts.0 | inr there ↦ row_held Q ss r there parts.1 ]

-- a row that was searched brings nothing new
pub row_searched : (sizes : ℕ → ℕ) (found : Option BlockRef) (rs : List (List BlockRef)) (r : List BlockRef)
    → Contains rs r → AreSearched sizes found (flat rs) → first_wrong sizes found r ≡ found
row_searched sizes found rs r has searched =
    nothing_new sizes found r (row_held (IsSearched sizes found) rs r has searched)

pub clip_part : (Q : BlockRef → Type 0) (cs : List Clip) (i : ℕ) (c : Clip) → slice_get cs i ≡ Some c
    → AllByRecursion Q (layout_blocks cs) → AllByRecursion Q c.blocks
clip_part Q [] i c here all = absurd cc
clip_part Q (d ∷ ds) zero c here all =
    let same : d ≡ c = cc in rw same at (all_parts Q d.blocks (layout_blocks ds) all).0
clip_part Q (d ∷ ds) (suc i) c here all = clip_part Q ds i c here (all_parts Q d.blocks (layout_blocks ds) all).1

pub track_part : (Q : BlockRef → Type 0) (ts : List Track) (i : ℕ) (t : Track) → slice_get ts i ≡ Some t
    → AllByRecursion Q (point_blocks ts) → AllByRecursion Q (layout_blocks t.layout)
track_part Q [] i t here all = absurd cc
track_part Q (u ∷ us) zero t here all =
    let same : u ≡ t = cc in rw same at (all_parts Q (layout_blocks u.layout) (point_blocks us) all).0
track_part Q (u ∷ us) (suc i) t here all =
    track_part Q us i t here (all_parts Q (layout_blocks u.layout) (point_blocks us) all).1

pub track_holds : (P : Track → Type 0) (ts : List Track) (i : ℕ) (t : Track) → slice_get ts i ≡ Some t
    → AllByRecursion P ts → P t
track_holds P [] i t here all = absurd cc
track_holds P (u ∷ us) zero t here all = let same : u ≡ t = cc in subst P same all.0
track_holds P (u ∷ us) (suc i) t here all = track_holds P us i t here all.1

-- ---- layouts of one number

agree_each : (t : Track) (us ts : List Track) → AgreesWith t ts → AreAmong us ts → AgreesWith t us
agree_each t [] ts agree all = tt
agree_each t (u ∷ us) ts agree all = (agrees_one t u ts agree all.0, agree_each t us ts agree all.1)

-- the tracks of two points of one history agree
pub agree_points : (xs ys ts : List Track) → AreNumbered ts → AreAmong xs ts → AreAmong ys ts
    → AllByRecursion (λ (t : Track). AgreesWith t ys) xs
agree_points [] ys ts numbered these those = tt
agree_points (x ∷ xs) ys ts numbered these those = (
  agree_each x ys ts (among_agrees x ts numbered these.0) those,
  agree_points xs ys ts numbered these.1 those,
)

pub agree_none : (ts : List Track) → AllByRecursion (λ (t : Track). AgreesWith t []) ts
agree_none [] = tt
agree_none (t ∷ ts) = (tt, agree_none ts)

-- ---- the point that was searched last

pub last_searched : (sizes : ℕ → ℕ) (found after : Option BlockRef) (ps : List (List Track)) (i : ℕ) (ts : List Track)
    → slice_get ps i ≡ Some ts → after ≡ first_wrong sizes found (point_blocks ts)
    → (k : ℕ) (p : List Track) → k + 1 ≡ i + 1 → slice_get ps k ≡ Some p → AreSearched sizes after (point_blocks p)
last_searched sizes found after ps i ts here is k p on there =
    let same : k ≡ i = omega (arith, on) in
    let one : p ≡ ts = some_is p ts (sym there ∙ ap (λ (n : ℕ). slice_get ps n) same ∙ here) in
    rw (is, one) (searched_all sizes found (point_blocks ts))
