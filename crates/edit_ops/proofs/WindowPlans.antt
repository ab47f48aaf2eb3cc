-- The plan of a window's track as a plan of the whole track.
use Rattle.edit_ops.proofs.Common.{◌≡◌, ℕ, inl, inr, ◌+◌, ◌≤◌, List, [], ◌∷◌, ◌++◌, length, refl, sym, ap, ap₂, subst, ◌∙◌}
use Rattle.edit_ops.proofs.Common.{append-nil, append_assoc, arith, Contains-append_left, Contains-append_right, Contains}
use Rattle.edit_ops.proofs.Common.{AllFrom, AllHalfFull, BlockRef, IsHalfFull, Piece, end_of, layout_blocks, Clip, NewBlock}
use Rattle.edit_ops.proofs.Common.{Plan}
use Rattle.edit_ops.specs.Windows.{back_of, front_of, middle_of}
use Rattle.edit_ops.specs.Plans.{AllNewFrom, AreNew, AreOldOrNew, IsPlan, Start}
use Rattle.edit_ops.specs.Joins.{clip_of, joined_clips, moved}
use Rattle.edit_ops.specs.Windows.{IsNear, IsPlaced, IsWindow, back_clip, front_clip, track_with, window_blocks}
use Rattle.edit_ops.specs.declared.windows.{Near.Near, Window.Window}
use Rattle.edit_ops.proofs.{Named.old_or_new_append, Pastes.piece_from_more, TouchingClips.joined_blocks}
use Rattle.std.proofs.Common.{IfSome, None, Option, Some}
use Rattle.std.specs.Prelude.{◌⊎◌}
use Rattle.pcm_base.specs.Blocks.{block_lens, blocks_len}
use Rattle.edit_ops.proofs.TouchingClips.{of_blocks}
use Rattle.edit_ops.proofs.WindowBlocks.{blocks_append, moved_blocks}
use Rattle.edit_ops.proofs.WindowLayouts.{additions, window_end, window_len}

-- more blocks to come from
abbrev Within : List BlockRef → List BlockRef → Type 0
Within old more = (b : BlockRef) → Contains old b → Contains more b

all_from_more : (old more : List BlockRef) (count : ℕ) (ps : List Piece) → Within old more → AllFrom old count ps
    → AllFrom more count ps
all_from_more old more count [] g f = tt
all_from_more old more count (p ∷ ps) g f = (piece_from_more old more count p g f.0, all_from_more old more count ps g f.1)

new_from_more : (old more : List BlockRef) (count : ℕ) (ns : List NewBlock) → Within old more → AllNewFrom old count ns
    → AllNewFrom more count ns
new_from_more old more count [] g f = tt
new_from_more old more count (n ∷ ns) g f =
    (all_from_more old more count n.pieces g f.0, new_from_more old more count ns g f.1)

old_or_new_more : (old more bs : List BlockRef) (ns : List NewBlock) → Within old more → AreOldOrNew old bs ns
    → AreOldOrNew more bs ns
old_or_new_more old more [] [] g h = tt
old_or_new_more old more [] (n ∷ ns) g h = absurd h
old_or_new_more old more (b ∷ bs) [] g h = (g b h.0, old_or_new_more old more bs [] g h.1)
old_or_new_more old more (b ∷ bs) (n ∷ ns) g h = elim h [
  | inl o ↦ inl (g b o.0, old_or_new_more old more bs (n ∷ ns) g o.1)
  | inr o ↦ inr (o.0, old_or_new_more old more bs ns g o.1)
]

all_old : (old bs : List BlockRef) → Within bs old → AreOldOrNew old bs []
all_old old [] g = tt
all_old old (b ∷ bs) g = (
  g b (Contains-append_left (b ∷ []) bs b (0, omega arith, refl)),
  all_old old bs (λ c h. g c (Contains-append_right (b ∷ []) bs c h)),
)

-- old blocks before and after
old_before : (old xs ys : List BlockRef) (ns : List NewBlock) → Within xs old → AreOldOrNew old ys ns
    → AreOldOrNew old (xs ++ ys) ns
old_before old xs ys ns g h = old_or_new_append old xs ys [] ns (all_old old xs g) h

old_after : (old xs ys : List BlockRef) (ns : List NewBlock) → Within ys old → AreOldOrNew old xs ns
    → AreOldOrNew old (xs ++ ys) ns
old_after old xs ys ns g h =
    subst (AreOldOrNew old (xs ++ ys)) (append-nil ns) (old_or_new_append old xs ys ns [] h (all_old old ys g))

-- the blocks of a track with some blocks in a window's place
abbrev pub blocks_with : Window → List BlockRef → List BlockRef
blocks_with w bs = layout_blocks w.before.now ++ (front_of w ++ bs ++ back_of w ++ layout_blocks w.after.now)

pub blocks_now : (m : ℕ) (t : List Clip) (w : Window) → IsWindow m t w → layout_blocks t ≡ blocks_with w (middle_of w)
blocks_now m t w h =
    let bs = window_blocks w in
    ap layout_blocks h.clips ∙ blocks_append w.before.now (clip_of w.start bs ++ w.after.now)
    ∙ ap (λ (xs : List BlockRef). layout_blocks w.before.now ++ xs) (of_blocks w.start bs w.after.now)

pub blocks_then : (w : Window) (old new : ℕ) (small : List Clip)
    → layout_blocks (track_with w old new small) ≡ blocks_with w (layout_blocks small)
blocks_then w old new small =
    let after = moved (w.from + old) (w.from + new) w.after.now in
    let here = moved 0 w.from small in
    let front = front_of w in
    let back = back_of w in
    let rest = layout_blocks w.after.now in
    let added : layout_blocks (additions w new small ++ after) ≡ layout_blocks small ++ (back ++ rest) =
    ap layout_blocks (append_assoc here (back_clip w new ∷ []) after)
    ∙ blocks_append here (back_clip w new ∷ after)
    ∙ ap₂ (λ (xs : List BlockRef) (ys : List BlockRef). xs ++ (back ++ ys)) (moved_blocks 0 w.from small)
    (moved_blocks (w.from + old) (w.from + new) w.after.now) in
    let join : front ++ (layout_blocks small ++ (back ++ rest)) ≡ front ++ layout_blocks small ++ back ++ rest =
    sym (append_assoc front (layout_blocks small) (back ++ rest))
    ∙ sym (append_assoc (front ++ layout_blocks small) back rest) in
    blocks_append w.before.now (joined_clips (front_clip w) (additions w new small) ++ after)
    ∙ ap (λ (xs : List BlockRef). layout_blocks w.before.now ++ xs)
    (joined_blocks (front_clip w) (additions w new small) after ∙ ap (λ (xs : List BlockRef). front ++ xs) added ∙ join)

old_or_new_around : (w : Window) (bs : List BlockRef) (ns : List NewBlock) → AreOldOrNew (middle_of w) bs ns
    → AreOldOrNew (blocks_with w (middle_of w)) (blocks_with w bs) ns
old_or_new_around w bs ns h =
    let all = blocks_with w (middle_of w) in
    let before = layout_blocks w.before.now in
    let after = layout_blocks w.after.now in
    let front = front_of w in
    let middle = middle_of w in
    let back = back_of w in
    let one : Within (front ++ middle ++ back ++ after) all =
    λ b i. Contains-append_right before (front ++ middle ++ back ++ after) b i in
    let clip : Within (front ++ middle ++ back) all =
    λ b i. one b (Contains-append_left (front ++ middle ++ back) after b i) in
    let start : Within (front ++ middle) all = λ b i. clip b (Contains-append_left (front ++ middle) back b i) in
    old_before all before (front ++ bs ++ back ++ after) ns
    (λ b i. Contains-append_left before (front ++ middle ++ back ++ after) b i)
    (old_after all (front ++ bs ++ back) after ns
    (λ b i. one b (Contains-append_right (front ++ middle ++ back) after b i))
    (old_after all (front ++ bs) back ns (λ b i. clip b (Contains-append_right (front ++ middle) back b i))
    (old_before all front bs ns (λ b i. start b (Contains-append_left front middle b i))
    (old_or_new_more middle all bs ns (λ b i. start b (Contains-append_right front middle b i)) h))))

middle_within : (m : ℕ) (t : List Clip) (w : Window) → IsWindow m t w → Within (middle_of w) (layout_blocks t)
middle_within m t w h b i =
    let front = front_of w in
    let middle = middle_of w in
    let P : List BlockRef → Type 0 = λ xs. Contains xs b in
    subst P (sym (blocks_now m t w h)) (Contains-append_right (layout_blocks w.before.now) _ b
    (Contains-append_left (front ++ middle ++ back_of w) (layout_blocks w.after.now) b
    (Contains-append_left (front ++ middle) (back_of w) b (Contains-append_right front middle b i))))

small_blocks : (bs : List BlockRef) → layout_blocks (clip_of 0 bs) ≡ bs
small_blocks [] = refl
small_blocks (b ∷ bs) = append-nil (b ∷ bs)

pub plan_placed : (start : Start) (t : List Clip) (w : Window) (old new count : ℕ) (small p : Plan)
    → IsWindow start.block_size t w → IsPlaced start.block_size w old new small p
    → IsPlan start (layout_blocks (clip_of 0 (middle_of w))) count small → IsPlan start (layout_blocks t) count p
plan_placed start t w old new count small p h a k =
    let m = start.block_size in
    let bs = layout_blocks small.layout in
    let mine = small_blocks (middle_of w) in
    let N : List NewBlock → Type 0 = AreNew m start.next in
    let F : List NewBlock → Type 0 = AllNewFrom (layout_blocks t) count in
    let inside : Within (layout_blocks (clip_of 0 (middle_of w))) (layout_blocks t) =
    λ b i. middle_within m t w h b (subst (λ (xs : List BlockRef). Contains xs b) mine i) in
    let B1 : List BlockRef → Type 0 = λ xs. AreOldOrNew xs bs small.makes in
    let named : AreOldOrNew (middle_of w) bs small.makes = subst B1 mine k.blocks in
    let B3 : List BlockRef → Type 0 = λ xs. AreOldOrNew xs (blocks_with w bs) small.makes in
    let B4 : List BlockRef → Type 0 = λ xs. AreOldOrNew (layout_blocks t) xs small.makes in
    let B5 : List NewBlock → Type 0 = λ ns. AreOldOrNew (layout_blocks t) (layout_blocks p.layout) ns in
    let whole : layout_blocks p.layout ≡ blocks_with w bs =
    ap layout_blocks a.around.clips ∙ blocks_then w old new small.layout in
    record {
      half_full = a.around.half_full;
      new = subst N (sym a.makes) k.new;
      origin = subst F (sym a.makes) (new_from_more _ _ count small.makes inside k.origin);
      blocks = subst B5 (sym a.makes) (subst B4 (sym whole) (subst B3 (sym (blocks_now m t w h))
          (old_or_new_around w bs small.makes named)));
      next_id = a.next ∙ k.next_id ∙ ap (λ (ns : List NewBlock). start.next + length ns) (sym a.makes);
    }

-- ---- what may be there
pub if_some : {A : Type 0} (P Q : A → Type 0) (o : Option A) → ((x : A) → P x → Q x) → IfSome o P → IfSome o Q
if_some P Q None f h = tt
if_some P Q (Some x) f h = f x h

-- ---- a window that a range lies in, and its track
small_half_full : (m : ℕ) (bs : List BlockRef) → IsHalfFull m (block_lens bs) → AllHalfFull m (clip_of 0 bs)
small_half_full m [] h = tt
small_half_full m (b ∷ bs) h = (h, tt)

pub near_half_full : (m from to : ℕ) (t : List Clip) (n : Near) → IsNear m from to t n → AllHalfFull m n.small
near_half_full m from to t n h =
    subst (AllHalfFull m) (sym h.small) (small_half_full m (middle_of n.window) h.window.middle)

small_len : (bs : List BlockRef) → end_of 0 (clip_of 0 bs) ≡ blocks_len bs
small_len [] = refl
small_len (b ∷ bs) = omega arith

pub near_len : (m from to : ℕ) (t : List Clip) (n : Near) → IsNear m from to t n
    → end_of 0 n.small ≡ blocks_len (middle_of n.window)
near_len m from to t n h = ap (end_of 0) h.small ∙ small_len (middle_of n.window)

-- it ends within the track, unless it is a gap after all clips
pub near_end : (m from to : ℕ) (t : List Clip) (n : Near) → IsNear m from to t n
    → (n.window.from + end_of 0 n.small ≤ end_of 0 t) ⊎ (end_of 0 n.small ≡ 0)
near_end m from to t n h = elim (window_end m t n.window h.window) [
  | inl e ↦ inl (omega (arith, e, near_len m from to t n h, window_len m t n.window h.window))
  | inr e ↦ inr (omega (arith, e, near_len m from to t n h, window_len m t n.window h.window, h.window.from))
]

pub plan_near : (start : Start) (t : List Clip) (n : Near) (from to old new count : ℕ) (small p : Plan)
    → IsNear start.block_size from to t n → IsPlaced start.block_size n.window old new small p
    → IsPlan start (layout_blocks n.small) count small → IsPlan start (layout_blocks t) count p
plan_near start t n from to old new count small p h a k =
    let P : List Clip → Type 0 = λ cs. IsPlan start (layout_blocks cs) count small in
    plan_placed start t n.window old new count small p h.window a (subst P h.small k)
