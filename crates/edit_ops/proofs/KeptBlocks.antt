-- Blocks that a plan leaves as they are.
use Rattle.edit_ops.proofs.Common.{◌≡◌, ℕ, ◌+◌, ◌-◌, ◌≤◌, List, [], ◌∷◌, ◌++◌, length, sym, ap}
use Rattle.edit_ops.proofs.Common.{◌∙◌, append_assoc, arith, length-append, BlockRef, Clip, clip_end, end_of}
use Rattle.edit_ops.proofs.Common.{layout_blocks, subst}
use Rattle.clip_track.proofs.KeptLists.{around, around_room, keeps_around}
use Rattle.pcm_base.specs.Blocks.{NoneEmpty, blocks_len}
use Rattle.clip_track.specs.Clips.{AreClips, IsLayout}
use Rattle.clip_track.specs.{Kept.Keeps, declared.kept.Kept.Kept}
use Rattle.edit_ops.specs.Windows.{IsKeptAround, IsWindow, back_of, front_of, middle_of, track_with}
use Rattle.edit_ops.specs.declared.windows.Window.{Window}
use Rattle.edit_ops.proofs.WindowBlocks.{part_length}
use Rattle.edit_ops.proofs.WindowPlans.{blocks_now, blocks_then, blocks_with}

-- ---- how many blocks there are
pub count_next : (cs : List Clip) (c : Clip) (ds : List Clip) → cs ≡ c ∷ ds
    → length (layout_blocks cs) ≡ length c.blocks + length (layout_blocks ds)
count_next cs c ds e = ap (λ (xs : List Clip). length (layout_blocks xs)) e ∙ length-append c.blocks (layout_blocks ds)

blocks_few : (bs : List BlockRef) → NoneEmpty bs → length bs ≤ blocks_len bs
blocks_few [] h = omega arith
blocks_few (b ∷ bs) h = omega (arith, h.0, blocks_few bs h.1)

clips_few : (from at : ℕ) (cs : List Clip) → AreClips from cs → at ≤ from
    → length (layout_blocks cs) + at ≤ end_of at cs
clips_few from at [] h l = omega arith
clips_few from at (c ∷ cs) h l = omega (
  arith,
  h.0,
  l,
  blocks_few c.blocks h.2,
  length-append c.blocks (layout_blocks cs),
  clips_few (clip_end c + 1) (clip_end c) cs h.3 (omega arith),
)

layout_few : (cs : List Clip) → IsLayout cs → length (layout_blocks cs) ≤ 4294967296
layout_few cs h = omega (arith, clips_few 0 0 cs h.apart (omega arith), h.few)

-- ---- a window
-- the blocks before it, and after it
abbrev before_all : Window → List BlockRef
before_all w = layout_blocks w.before.now ++ front_of w

abbrev after_all : Window → List BlockRef
after_all w = back_of w ++ layout_blocks w.after.now

with_around : (w : Window) (bs : List BlockRef) → blocks_with w bs ≡ around (before_all w) (after_all w) bs
with_around w bs =
    let before = layout_blocks w.before.now in
    let after = layout_blocks w.after.now in
    let front = front_of w in
    let back = back_of w in
    ap (λ (xs : List BlockRef). before ++ xs)
    (append_assoc (front ++ bs) back after ∙ append_assoc front bs (back ++ after))
    ∙ sym (append_assoc before front (bs ++ (back ++ after)))

before_room : (m : ℕ) (t : List Clip) (w : Window) → IsWindow m t w
    → length (before_all w) ≡ length (layout_blocks w.before.now) + w.begin
before_room m t w h = omega (
  arith,
  length-append (layout_blocks w.before.now) (front_of w),
  part_length 0 w.begin w.blocks.now (omega arith) (omega (arith, h.rising, h.last, h.within)),
)

after_room : (m : ℕ) (t : List Clip) (w : Window) → IsWindow m t w
    → length (after_all w) ≡ length (layout_blocks w.after.now) + (w.count - w.end)
after_room m t w h = omega (
  arith,
  length-append (back_of w) (layout_blocks w.after.now),
  part_length w.end w.count w.blocks.now h.last h.within,
)

pub window_room : (m : ℕ) (t : List Clip) (w : Window) → IsWindow m t w
    → length (layout_blocks w.before.now) + w.count + length (layout_blocks w.after.now) ≤ 4294967296
window_room m t w h = omega (
  arith,
  ap length (blocks_now m t w h ∙ with_around w (middle_of w)),
  around_room (before_all w) (middle_of w) (after_all w),
  before_room m t w h,
  after_room m t w h,
  part_length w.begin w.end w.blocks.now h.rising (omega (arith, h.last, h.within)),
  h.rising,
  h.last,
  layout_few t h.layout,
)

pub keeps_window : (m : ℕ) (t : List Clip) (w : Window) (old new : ℕ) (small all : List Clip) (k : Kept)
    → IsWindow m t w → all ≡ track_with w old new small → IsKeptAround w k
    → Keeps k (layout_blocks t) (layout_blocks all)
keeps_window m t w old new small all k h e a =
    let was = blocks_now m t w h ∙ with_around w (middle_of w) in
    let is = ap layout_blocks e ∙ blocks_then w old new small ∙ with_around w (layout_blocks small) in
    let K1 : List BlockRef → Type 0 = λ xs. Keeps k xs (around (before_all w) (after_all w) (layout_blocks small)) in
    let K2 : List BlockRef → Type 0 = λ xs. Keeps k (layout_blocks t) xs in
    subst K2 (sym is) (subst K1 (sym was) (keeps_around k (before_all w) (after_all w) (middle_of w)
    (layout_blocks small) (a.front ∙ sym (before_room m t w h)) (a.back ∙ sym (after_room m t w h))))
