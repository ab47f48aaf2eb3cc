-- What a track means around a window, and with another track in the window's place.
use Rattle.edit_ops.proofs.Common.{◌≡◌, ℕ, zero, suc, inl, inr, ◌+◌, ◌-◌, ◌<◌, ◌≤◌, List, [], ◌∷◌, ◌++◌, length, map, take}
use Rattle.edit_ops.proofs.Common.{drop, replicate, refl, sym, ap, ap₂, subst, ◌∙◌, append_assoc, arith, length-append}
use Rattle.edit_ops.proofs.Common.{append-nil, take-append-le, length-replicate, Sources, BlockRef, Clip, Cell}
use Rattle.edit_ops.proofs.Common.{clip_end, continued, end_of, trimmed}
use Rattle.std.proofs.lemmas.List.{drop-append-le, length-map, map-append}
use Rattle.pcm_base.specs.Blocks.{block_samples, blocks_len}
use Rattle.pcm_base.proofs.Pieces.{drop-past}
use Rattle.block_sequence.proofs.Whole.{length-blocks}
use Rattle.clip_track.specs.Clips.{AreClips, cells_from}
use Rattle.clip_track.proofs.Layouts.{AreClips-earlier, length-layout}
use Rattle.edit_ops.specs.Windows.{back_of, front_of, middle_of}
use Rattle.edit_ops.specs.Joins.{clip_of, joined_clips, moved}
use Rattle.edit_ops.specs.Windows.{IsAround, IsWindow, back_clip, front_clip, window_blocks}
use Rattle.edit_ops.specs.declared.windows.Window.{Window}
use Rattle.edit_ops.proofs.CellLists.{continued_after, continued_same, regrown}
use Rattle.edit_ops.proofs.LaidLists.{trimmed-clip}
use Rattle.edit_ops.proofs.TouchingClips.{joined_cells, of_exact, samples_append, trimmed_after}
use Rattle.edit_ops.proofs.WindowBlocks.{end_before_next}
use Rattle.edit_ops.proofs.WindowLayouts.{additions, additions_loose, after_apart, none_empty_parts, small_end, window_end}
use Rattle.edit_ops.proofs.WindowLayouts.{window_len}
use Rattle.pcm_base.specs.declared.sound.Cell.TheVariants as cell

-- ---- lists
take_past : {A : Type 0} (xs ys : List A) (n : ℕ) → length xs ≤ n → take n (xs ++ ys) ≡ xs ++ take (n - length xs) ys
take_past [] ys n h = let e : n ≡ n - 0 = omega arith in ap (λ k. take k ys) e
take_past (x ∷ xs) ys zero h = absurd (omega (arith, h))
take_past (x ∷ xs) ys (suc n) h =
    let e : n - length xs ≡ suc n - suc (length xs) = omega arith in
    ap (λ zs. x ∷ zs) (take_past xs ys n (omega (arith, h))) ∙ ap (λ k. x ∷ xs ++ take k ys) e

-- an end within the second of three lists
pub take_within : {A : Type 0} (xs ys zs : List A) (n : ℕ) → length xs ≤ n → n ≤ length xs + length ys
    → take n (xs ++ ys ++ zs) ≡ xs ++ take (n - length xs) ys
take_within xs ys zs n l h =
    take-append-le n (xs ++ ys) zs (omega (arith, h, length-append xs ys)) ∙ take_past xs ys n l

pub drop_within : {A : Type 0} (xs ys zs : List A) (n : ℕ) → length xs ≤ n → n ≤ length xs + length ys
    → drop n (xs ++ ys ++ zs) ≡ drop (n - length xs) ys ++ zs
drop_within xs ys zs n l h =
    drop-append-le n (xs ++ ys) zs (omega (arith, h, length-append xs ys))
    ∙ ap (λ ws. ws ++ zs) (drop-past xs ys n l)

pub assoc_five : {A : Type 0} (a g f s k r : List A) → a ++ (g ++ (f ++ s ++ k) ++ r) ≡ (a ++ g ++ f) ++ s ++ (k ++ r)
assoc_five a g f s k r =
    let left : g ++ (f ++ s ++ k) ++ r ≡ g ++ (f ++ (s ++ (k ++ r))) =
    append_assoc g (f ++ s ++ k) r
    ∙ ap (λ ws. g ++ ws) (append_assoc (f ++ s) k r ∙ append_assoc f s (k ++ r)) in
    let right : (a ++ g ++ f) ++ s ++ (k ++ r) ≡ a ++ (g ++ (f ++ (s ++ (k ++ r)))) =
    append_assoc (a ++ g ++ f) s (k ++ r)
    ∙ append_assoc (a ++ g) f (s ++ (k ++ r))
    ∙ append_assoc a g (f ++ (s ++ (k ++ r))) in
    ap (λ ws. a ++ ws) left ∙ sym right

-- ---- cells that no gap ends
pub trimmed_layout : (src : Sources) (at from : ℕ) (cs : List Clip) → AreClips from cs
    → trimmed (cells_from src at cs) ≡ cells_from src at cs
trimmed_layout src at from [] h = refl
trimmed_layout src at from (c ∷ cs) h =
    trimmed-clip (c.start - at) (block_samples src c.blocks) (cells_from src (clip_end c) cs)
    (omega (arith, length-blocks src c.blocks, h.1))
    (trimmed_layout src (clip_end c) (clip_end c + 1) cs h.3)

-- ---- blocks and clips
abbrev pub sound : Sources → List BlockRef → List Cell
sound src bs = map cell.Sample (block_samples src bs)

sound_append : (src : Sources) (xs ys : List BlockRef) → sound src (xs ++ ys) ≡ sound src xs ++ sound src ys
sound_append src xs ys =
    ap (map cell.Sample) (samples_append src xs ys) ∙ map-append cell.Sample (block_samples src xs) (block_samples src ys)

pub length_sound : (src : Sources) (bs : List BlockRef) → length (sound src bs) ≡ blocks_len bs
length_sound src bs = length-map _ _ ∙ length-blocks src bs

cells_append : (src : Sources) (at : ℕ) (xs ys : List Clip)
    → cells_from src at (xs ++ ys) ≡ cells_from src at xs ++ cells_from src (end_of at xs) ys
cells_append src at [] ys = refl
cells_append src at (x ∷ xs) ys =
    let one = replicate (x.start - at) cell.Gap ++ sound src x.blocks in
    ap (λ cs. one ++ cs) (cells_append src (clip_end x) xs ys)
    ∙ sym (append_assoc one (cells_from src (clip_end x) xs) (cells_from src (end_of (clip_end x) xs) ys))

-- clips mean the same elsewhere
cells_moved : (src : Sources) (at from to : ℕ) (cs : List Clip) → from ≤ at → AreClips at cs
    → cells_from src (at - from + to) (moved from to cs) ≡ cells_from src at cs
cells_moved src at from to [] l h = refl
cells_moved src at from to (c ∷ cs) l h =
    let gap : c.start - from + to - (at - from + to) ≡ c.start - at = omega (arith, l, h.0) in
    let end : c.start - from + to + blocks_len c.blocks ≡ clip_end c - from + to = omega (arith, l, h.0) in
    ap₂ (λ (n : ℕ) (ds : List Cell). replicate n cell.Gap ++ sound src c.blocks ++ ds) gap
    (ap (λ (n : ℕ). cells_from src n (moved from to cs)) end
    ∙ cells_moved src (clip_end c) from to cs (omega (arith, l, h.0))
    (AreClips-earlier (clip_end c) (clip_end c + 1) cs (omega arith) h.3))

-- the cells before a window, and those after it
abbrev pub front_cells : Sources → Window → List Cell
front_cells src w = cells_from src 0 w.before.now ++ replicate (w.start - end_of 0 w.before.now) cell.Gap
    ++ sound src (front_of w)

abbrev pub back_cells : Sources → Window → List Cell
back_cells src w = sound src (back_of w) ++ cells_from src (w.start + w.len) w.after.now

-- and all of them
abbrev pub window_sound : Sources → Window → List Cell
window_sound src w = front_cells src w ++ sound src (middle_of w) ++ back_cells src w

window_clip : (src : Sources) (m : ℕ) (t : List Clip) (w : Window) → IsWindow m t w
    → cells_from src 0 w.before.now
    ++ cells_from src (end_of 0 w.before.now) (record { start = w.start; blocks = window_blocks w } ∷ w.after.now)
    ≡ window_sound src w
window_clip src m t w h =
    let before = cells_from src 0 w.before.now in
    let gap = replicate (w.start - end_of 0 w.before.now) cell.Gap in
    let rest = cells_from src (w.start + w.len) w.after.now in
    let all : sound src (window_blocks w) ≡ sound src (front_of w) ++ sound src (middle_of w) ++ sound src (back_of w) =
    sound_append src (front_of w ++ middle_of w) (back_of w)
    ∙ ap (λ cs. cs ++ sound src (back_of w)) (sound_append src (front_of w) (middle_of w)) in
    ap₂ (λ (cs : List Cell) (n : ℕ). before ++ (gap ++ cs ++ cells_from src (w.start + n) w.after.now)) all (sym h.len)
    ∙ assoc_five before gap (sound src (front_of w)) (sound src (middle_of w)) (sound src (back_of w)) rest

length_before : (src : Sources) (m : ℕ) (t : List Clip) (w : Window) → IsWindow m t w
    → (length (cells_from src 0 w.before.now) ≡ end_of 0 w.before.now) × (end_of 0 w.before.now ≤ w.start)
length_before src m t w h = (
  length-layout src w.before.now h.before,
  omega (arith, end_before_next 0 0 w.before.now (omega arith), h.apart),
)

pub length_front : (src : Sources) (m : ℕ) (t : List Clip) (w : Window) → IsWindow m t w
    → length (front_cells src w) ≡ w.from
length_front src m t w h =
    let before = cells_from src 0 w.before.now in
    let gap = replicate (w.start - end_of 0 w.before.now) cell.Gap in
    let p = length_before src m t w h in
    omega (
      arith,
      length-append (before ++ gap) (sound src (front_of w)),
      length-append before gap,
      p.0,
      length-replicate {A = Cell} (w.start - end_of 0 w.before.now) cell.Gap,
      length_sound src (front_of w),
      p.1,
      h.from,
    )

-- the track's cells, continued up to the window's clip
pub window_continued : (src : Sources) (m : ℕ) (t : List Clip) (w : Window) → IsWindow m t w
    → continued w.start (cells_from src 0 t) ≡ window_sound src w
window_continued src m t w h =
    let at = end_of 0 w.before.now in
    let before = cells_from src 0 w.before.now in
    let bs = window_blocks w in
    let p = length_before src m t w h in
    let n : w.start ≡ length before + (w.start - at) = omega (arith, p.0, p.1) in
    let A : ℕ → Type 0 = λ k. AreClips (w.start + k) w.after.now in
    let after = subst A h.len (AreClips-earlier (w.start + w.len) (w.start + w.len + 1) w.after.now (omega arith) h.after) in
    ap₂ continued n (ap (cells_from src 0) h.clips ∙ cells_append src 0 w.before.now (clip_of w.start bs ++ w.after.now))
    ∙ continued_after (w.start - at) before (cells_from src at (clip_of w.start bs ++ w.after.now))
    ∙ ap (λ cs. before ++ cs) (sym (of_exact src at w.start bs w.after.now p.1 after))
    ∙ window_clip src m t w h

-- and alone, where it is there
pub window_cells : (src : Sources) (m : ℕ) (t : List Clip) (w : Window) → IsWindow m t w → 0 < blocks_len (middle_of w)
    → cells_from src 0 t ≡ window_sound src w
window_cells src m t w h some =
    let long = length-layout src t h.layout.apart in
    let len = window_len m t w h in
    let within : w.start ≤ length (cells_from src 0 t) = elim (window_end m t w h) [
      | inl e ↦ omega (arith, long, e)
      | inr e ↦ absurd (omega (arith, e, some, len, h.from))
    ] in
    sym (continued_same w.start (cells_from src 0 t) within) ∙ window_continued src m t w h

-- the cells of the window's own track
pub small_cells : (src : Sources) (bs : List BlockRef) → cells_from src 0 (clip_of 0 bs) ≡ sound src bs
small_cells src [] = refl
small_cells src (b ∷ bs) = append-nil (sound src (b ∷ bs))

-- ---- another track in a window's place
added_cells : (src : Sources) (m : ℕ) (t : List Clip) (w : Window) (old new : ℕ) (small : List Clip) (cells : List Cell)
    → IsWindow m t w → old ≡ blocks_len (middle_of w) → AreClips 0 small → end_of 0 small ≤ new
    → cells_from src 0 small ≡ trimmed cells → length cells ≡ new
    → cells_from src w.from (additions w new small ++ moved (w.from + old) (w.from + new) w.after.now)
    ≡ cells ++ back_cells src w
added_cells src m t w old new small cells h o a l e n =
    let from = w.from + old in
    let to = w.from + new in
    let es = moved from to w.after.now in
    let back = sound src (back_of w) in
    let end = w.start + w.len in
    let gap : ℕ = new - length (trimmed cells) in
    let len = window_len m t w h in
    let zero_at : 0 - 0 + w.from ≡ w.from = omega arith in
    let later = AreClips-earlier end (end + 1) w.after.now (omega arith) h.after in
    let here : cells_from src w.from (moved 0 w.from small) ≡ trimmed cells =
    sym (ap (λ (k : ℕ). cells_from src k (moved 0 w.from small)) zero_at)
    ∙ cells_moved src 0 0 w.from small (omega arith) a ∙ e in
    let long : end_of 0 small ≡ length (trimmed cells) = sym (length-layout src small a) ∙ ap length e in
    let k : to - end_of w.from (moved 0 w.from small) ≡ gap = omega (arith, small_end w small a, long, l) in
    let i : to + blocks_len (back_of w) ≡ end - from + to = omega (arith, len, o) in
    let rest : cells_from src (to + blocks_len (back_of w)) es ≡ cells_from src end w.after.now =
    ap (λ (j : ℕ). cells_from src j es) i ∙ cells_moved src end from to w.after.now (omega (arith, len, o)) later in
    let grown : trimmed cells ++ replicate gap cell.Gap ≡ cells =
    ap (λ (j : ℕ). trimmed cells ++ replicate (j - length (trimmed cells)) cell.Gap) (sym n) ∙ regrown cells in
    ap (cells_from src w.from) (append_assoc (moved 0 w.from small) (back_clip w new ∷ []) es)
    ∙ cells_append src w.from (moved 0 w.from small) (back_clip w new ∷ es)
    ∙ ap₂ (λ (xs : List Cell) (j : ℕ). xs ++ (replicate j cell.Gap ++ back ++ cells_from src (to + blocks_len (back_of w)) es))
    here k
    ∙ ap (λ (zs : List Cell). trimmed cells ++ (replicate gap cell.Gap ++ back ++ zs)) rest
    ∙ ap (λ (zs : List Cell). trimmed cells ++ zs) (append_assoc (replicate gap cell.Gap) back (cells_from src end w.after.now))
    ∙ sym (append_assoc (trimmed cells) (replicate gap cell.Gap) (back_cells src w))
    ∙ ap (λ (zs : List Cell). zs ++ back_cells src w) grown

pub cells_placed : (src : Sources) (m : ℕ) (t : List Clip) (w : Window) (old new : ℕ) (small all : List Clip)
    (cells : List Cell) → IsWindow m t w → old ≡ blocks_len (middle_of w) → IsAround m w old new small all
    → cells_from src 0 small ≡ trimmed cells → length cells ≡ new
    → cells_from src 0 all ≡ trimmed (front_cells src w ++ cells ++ back_cells src w)
cells_placed src m t w old new small all cells h o a e n =
    let at = end_of 0 w.before.now in
    let before = cells_from src 0 w.before.now in
    let gap = replicate (w.start - at) cell.Gap in
    let front = front_clip w in
    let ds = additions w new small in
    let es = moved (w.from + old) (w.from + new) w.after.now in
    let p = length_before src m t w h in
    let C : ℕ → Type 0 = λ k. cells_from src k (ds ++ es) ≡ cells ++ back_cells src w in
    let added = subst C h.from (added_cells src m t w old new small cells h o a.apart a.within e n) in
    sym (trimmed_layout src 0 0 all a.layout.apart)
    ∙ ap trimmed (ap (cells_from src 0) a.clips ∙ cells_append src 0 w.before.now (joined_clips front ds ++ es))
    ∙ trimmed_after before (cells_from src at (joined_clips front ds ++ es)) (cells_from src at (front ∷ (ds ++ es)))
    (joined_cells src at front ds es p.1 (none_empty_parts m t w h).0 (additions_loose m t w new small h a.apart a.within)
    (after_apart m t w old new small h o))
    ∙ ap trimmed (ap (λ (zs : List Cell). before ++ (gap ++ sound src (front_of w) ++ zs)) added
    ∙ assoc_front before gap (sound src (front_of w)) cells (back_cells src w))
  where
    assoc_front : (a g f c k : List Cell) → a ++ (g ++ f ++ (c ++ k)) ≡ (a ++ g ++ f) ++ c ++ k
    assoc_front a g f c k =
        sym (append_assoc a (g ++ f) (c ++ k))
        ∙ ap (λ ws. ws ++ (c ++ k)) (sym (append_assoc a g f))
        ∙ sym (append_assoc (a ++ g ++ f) c k)
