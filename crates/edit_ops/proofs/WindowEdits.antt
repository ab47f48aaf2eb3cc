-- Edits of cells change a window alone, where their range lies in it.
use Rattle.edit_ops.proofs.Common.{◌≡◌, ℕ, ◌+◌, ◌-◌, ◌<◌, ◌≤◌, List, [], ◌++◌, length, map, take, drop, sym, ap, ap₂, ◌∙◌}
use Rattle.edit_ops.proofs.Common.{append_assoc, arith, length-append, length-drop, take-append-le, Sources, Clip, Cell}
use Rattle.edit_ops.proofs.Common.{trimmed, continued, end_of, part, Plan, subst, emptied, cut_cells, Cutting, Delete}
use Rattle.edit_ops.proofs.Common.{SplitDelete, Trim}
use Rattle.std.proofs.Common.{None, Option, Some}
use Rattle.std.proofs.lemmas.List.{length-map, length-take}
use Rattle.pcm_base.specs.Blocks.{blocks_len}
use Rattle.pcm_base.specs.Edits.{changed, deleted, inserted}
use Rattle.clip_track.specs.Clips.{cells_from}
use Rattle.edit_ops.specs.Windows.{middle_of}
use Rattle.edit_ops.specs.{Strips.CutsWithin, Windows.IsNear, Windows.IsPlaced, Windows.cells_left}
use Rattle.edit_ops.specs.declared.windows.Near.{Near}
use Rattle.edit_ops.proofs.CellLists.{front_within, inserted_continued}
use Rattle.edit_ops.proofs.WindowCells.{assoc_five, back_cells, cells_placed, drop_within, front_cells, length_front}
use Rattle.edit_ops.proofs.WindowCells.{length_sound, small_cells, sound, take_within, window_cells, window_continued}
use Rattle.edit_ops.proofs.WindowPlans.{near_len}

-- ---- of three lists, a range within the second
take_in : (xs ys zs : List Cell) (n at : ℕ) → length xs ≡ n → n ≤ at → at ≤ n + length ys
    → take at (xs ++ ys ++ zs) ≡ xs ++ take (at - n) ys
take_in xs ys zs n at e l h =
    take_within xs ys zs at (omega (arith, e, l)) (omega (arith, e, h)) ∙ ap (λ k. xs ++ take (at - k) ys) e

drop_in : (xs ys zs : List Cell) (n at : ℕ) → length xs ≡ n → n ≤ at → at ≤ n + length ys
    → drop at (xs ++ ys ++ zs) ≡ drop (at - n) ys ++ zs
drop_in xs ys zs n at e l h =
    drop_within xs ys zs at (omega (arith, e, l)) (omega (arith, e, h)) ∙ ap (λ k. drop (at - k) ys ++ zs) e

pub part_in : (xs ys zs : List Cell) (n from to : ℕ) → length xs ≡ n → n ≤ from → from ≤ to → to ≤ n + length ys
    → part from to (xs ++ ys ++ zs) ≡ part (from - n) (to - n) ys
part_in xs ys zs n from to e l r h =
    let k : to - from ≡ to - n - (from - n) = omega (arith, l, r) in
    ap (take (to - from)) (drop_in xs ys zs n from e l (omega (arith, r, h)))
    ∙ take-append-le (to - from) (drop (from - n) ys) zs (omega (arith, length-drop (from - n) ys, l, r, h))
    ∙ ap (λ i. take i (drop (from - n) ys)) k

inserted_in : (xs ys zs gs : List Cell) (n at : ℕ) → length xs ≡ n → n ≤ at → at ≤ n + length ys
    → trimmed (xs ++ (take (at - n) ys ++ gs ++ drop (at - n) ys) ++ zs) ≡ inserted at gs (xs ++ ys ++ zs)
inserted_in xs ys zs gs n at e l h =
    let all = xs ++ ys ++ zs in
    let long : at ≤ length all =
    omega (arith, length-append (xs ++ ys) zs, length-append xs ys, e, h) in
    let front : take at (continued at all) ≡ xs ++ take (at - n) ys =
    front_within at all long ∙ take_in xs ys zs n at e l h in
    ap trimmed (assoc_five [] xs (take (at - n) ys) gs (drop (at - n) ys) zs
    ∙ sym (ap₂ (λ (cs : List Cell) (ds : List Cell). cs ++ gs ++ ds) front (drop_in xs ys zs n at e l h)))

deleted_in : (xs ys zs : List Cell) (n from to : ℕ) → length xs ≡ n → n ≤ from → from ≤ to → to ≤ n + length ys
    → trimmed (xs ++ (take (from - n) ys ++ drop (to - n) ys) ++ zs) ≡ deleted from to (xs ++ ys ++ zs)
deleted_in xs ys zs n from to e l r h =
    let t = take (from - n) ys in
    let d = drop (to - n) ys in
    ap trimmed (ap (λ (ws : List Cell). ws ++ zs) (sym (append_assoc xs t d)) ∙ append_assoc (xs ++ t) d zs
    ∙ sym (ap₂ (λ (cs : List Cell) (ds : List Cell). cs ++ ds) (take_in xs ys zs n from e l (omega (arith, r, h)))
    (drop_in xs ys zs n to e (omega (arith, l, r)) h)))

changed_in : (f : Cell → Cell) (xs ys zs : List Cell) (n from to : ℕ) → length xs ≡ n → n ≤ from → from ≤ to
    → to ≤ n + length ys
    → trimmed (xs ++ (take (from - n) ys ++ map f (part (from - n) (to - n) ys) ++ drop (to - n) ys) ++ zs)
    ≡ changed f from to (xs ++ ys ++ zs)
changed_in f xs ys zs n from to e l r h =
    let t = take (from - n) ys in
    let d = drop (to - n) ys in
    let p : map f (part (from - n) (to - n) ys) ≡ map f (part from to (xs ++ ys ++ zs)) =
    sym (ap (map f) (part_in xs ys zs n from to e l r h)) in
    ap trimmed (assoc_five [] xs t (map f (part (from - n) (to - n) ys)) d zs
    ∙ ap (λ (ws : List Cell). (xs ++ t) ++ ws ++ (d ++ zs)) p
    ∙ sym (ap₂ (λ (cs : List Cell) (ds : List Cell). cs ++ map f (part from to (xs ++ ys ++ zs)) ++ ds)
    (take_in xs ys zs n from e l (omega (arith, r, h))) (drop_in xs ys zs n to e (omega (arith, l, r)) h)))

-- ---- plans of a window's track
small_is : (src : Sources) (m from to : ℕ) (t : List Clip) (n : Near) → IsNear m from to t n
    → cells_from src 0 n.small ≡ sound src (middle_of n.window)
small_is src m from to t n h = ap (cells_from src 0) h.small ∙ small_cells src (middle_of n.window)

-- a range that has cells
some_middle : (m from to : ℕ) (t : List Clip) (n : Near) → IsNear m from to t n → from < to
    → 0 < blocks_len (middle_of n.window)
some_middle m from to t n h r = omega (arith, h.past, h.within, near_len m from to t n h, r)

pub means_inserted : (src : Sources) (m : ℕ) (t : List Clip) (n : Near) (old count at : ℕ) (small p : Plan)
    (given : List Cell) → IsNear m at at t n → old ≡ end_of 0 n.small
    → IsPlaced m n.window old (old + count) small p → length given ≡ count
    → cells_from src 0 small.layout ≡ inserted (at - n.window.from) given (cells_from src 0 n.small)
    → cells_from src 0 p.layout ≡ inserted at given (cells_from src 0 t)
means_inserted src m t n old count at small p given near same a g means =
    let w = n.window in
    let h = near.window in
    let o = same ∙ near_len m at at t n near in
    let l = near.past in
    let k : at - w.from ≤ old = omega (arith, near.within, same) in
    let e = means ∙ ap (inserted (at - w.from) given) (small_is src m at at t n near) in
    let ys = sound src (middle_of w) in
    let place = at - w.from in
    let long = length_sound src (middle_of w) in
    let front : take place (continued place ys) ≡ take place ys = front_within place ys (omega (arith, long, o, k)) in
    let cells = take place ys ++ given ++ drop place ys in
    let size : length cells ≡ old + count = omega (
      arith,
      length-append (take place ys ++ given) (drop place ys),
      length-append (take place ys) given,
      length-take place ys,
      length-drop place ys,
      long,
      o,
      k,
      g,
    ) in
    cells_placed src m t w old (old + count) small.layout p.layout cells h o a.around
    (e ∙ ap (λ (xs : List Cell). trimmed (xs ++ given ++ drop place ys)) front) size
    ∙ inserted_in (front_cells src w) ys (back_cells src w) given w.from at (length_front src m t w h) l
    (omega (arith, long, o, k, l))
    ∙ ap (inserted at given) (sym (window_continued src m t w h))
    ∙ inserted_continued w.start at given (cells_from src 0 t) (omega (arith, h.from, l))

pub means_deleted : (src : Sources) (m : ℕ) (t : List Clip) (n : Near) (old from to : ℕ) (small p : Plan)
    → IsNear m from to t n → old ≡ end_of 0 n.small → from < to
    → IsPlaced m n.window old (old - (to - from)) small p
    → cells_from src 0 small.layout ≡ deleted (from - n.window.from) (to - n.window.from) (cells_from src 0 n.small)
    → cells_from src 0 p.layout ≡ deleted from to (cells_from src 0 t)
means_deleted src m t n old from to small p near same rise a means =
    let r : from ≤ to = omega (arith, rise) in
    let w = n.window in
    let h = near.window in
    let o = same ∙ near_len m from to t n near in
    let l = near.past in
    let k : to - w.from ≤ old = omega (arith, near.within, same) in
    let e = means ∙ ap (deleted (from - w.from) (to - w.from)) (small_is src m from to t n near) in
    let ys = sound src (middle_of w) in
    let long = length_sound src (middle_of w) in
    let cells = take (from - w.from) ys ++ drop (to - w.from) ys in
    let size : length cells ≡ old - (to - from) = omega (
      arith,
      length-append (take (from - w.from) ys) (drop (to - w.from) ys),
      length-take (from - w.from) ys,
      length-drop (to - w.from) ys,
      long,
      o,
      k,
      l,
      r,
    ) in
    cells_placed src m t w old (old - (to - from)) small.layout p.layout cells h o a.around e size
    ∙ deleted_in (front_cells src w) ys (back_cells src w) w.from from to (length_front src m t w h) l r
    (omega (arith, long, o, k, l, r))
    ∙ ap (deleted from to) (sym (window_cells src m t w h (some_middle m from to t n near rise)))

pub means_changed : (src : Sources) (m : ℕ) (f : Cell → Cell) (t : List Clip) (n : Near) (old from to : ℕ)
    (small p : Plan) → IsNear m from to t n → old ≡ end_of 0 n.small → from < to
    → IsPlaced m n.window old old small p
    → cells_from src 0 small.layout ≡ changed f (from - n.window.from) (to - n.window.from) (cells_from src 0 n.small)
    → cells_from src 0 p.layout ≡ changed f from to (cells_from src 0 t)
means_changed src m f t n old from to small p near same rise a means =
    let r : from ≤ to = omega (arith, rise) in
    let w = n.window in
    let h = near.window in
    let o = same ∙ near_len m from to t n near in
    let l = near.past in
    let k : to - w.from ≤ old = omega (arith, near.within, same) in
    let e = means ∙ ap (changed f (from - w.from) (to - w.from)) (small_is src m from to t n near) in
    let ys = sound src (middle_of w) in
    let long = length_sound src (middle_of w) in
    let t' = take (from - w.from) ys in
    let p' = part (from - w.from) (to - w.from) ys in
    let d' = drop (to - w.from) ys in
    let cells = t' ++ map f p' ++ d' in
    let size : length cells ≡ old = omega (
      arith,
      length-append (t' ++ map f p') d',
      length-append t' (map f p'),
      length-map {A = Cell} {B = Cell} p' f,
      length-take (from - w.from) ys,
      length-take (to - w.from - (from - w.from)) (drop (from - w.from) ys),
      length-drop (from - w.from) ys,
      length-drop (to - w.from) ys,
      long,
      o,
      k,
      l,
      r,
    ) in
    cells_placed src m t w old old small.layout p.layout cells h o a.around e size
    ∙ changed_in f (front_cells src w) ys (back_cells src w) w.from from to (length_front src m t w h) l r
    (omega (arith, long, o, k, l, r))
    ∙ ap (changed f from to) (sym (window_cells src m t w h (some_middle m from to t n near rise)))

-- the cells of the range are those of the window's track
pub part_near : (src : Sources) (m from to : ℕ) (t : List Clip) (n : Near) → IsNear m from to t n → from < to
    → part (from - n.window.from) (to - n.window.from) (cells_from src 0 n.small) ≡ part from to (cells_from src 0 t)
part_near src m from to t n h rise =
    let r : from ≤ to = omega (arith, rise) in
    let w = n.window in
    ap (part (from - w.from) (to - w.from)) (small_is src m from to t n h)
    ∙ sym (part_in (front_cells src w) (sound src (middle_of w)) (back_cells src w) w.from from to
    (length_front src m t w h.window) h.past r
    (omega (arith, length_sound src (middle_of w), near_len m from to t n h, h.within, h.past, r)))
    ∙ ap (part from to) (sym (window_cells src m t w h.window (some_middle m from to t n h rise)))

-- ---- a range that is cut
abbrev left_or_none : Option ℕ → ℕ
left_or_none None = 0
left_or_none (Some n) = n

abbrev IsThere : Option ℕ → Type 0
IsThere None = ⊥
IsThere (Some n) = Unit {0}

pub left_few : (cut : Cutting) (old count new : ℕ) → cells_left cut old count ≡ Some new → new ≤ old
left_few Delete old count new e = let k : old - count ≡ new = ap left_or_none e in omega (arith, k)
left_few SplitDelete old count new e = let k : old ≡ new = ap left_or_none e in omega (arith, k)
left_few Trim old count new e = absurd (subst IsThere (sym e) tt)

pub cuts_within : (cut : Cutting) (to len : ℕ) → to ≤ len → CutsWithin cut to len
cuts_within Delete to len h = tt
cuts_within SplitDelete to len h = tt
cuts_within Trim to len h = h

pub means_cut : (src : Sources) (m : ℕ) (cut : Cutting) (t : List Clip) (n : Near) (old new from to : ℕ) (small p : Plan)
    → IsNear m from to t n → old ≡ end_of 0 n.small → from < to → cells_left cut old (to - from) ≡ Some new
    → IsPlaced m n.window old new small p
    → cells_from src 0 small.layout
    ≡ cut_cells cut (from - n.window.from) (to - n.window.from) (cells_from src 0 n.small)
    → cells_from src 0 p.layout ≡ cut_cells cut from to (cells_from src 0 t)
means_cut src m Delete t n old new from to small p near same r e a means =
    let P : ℕ → Type 0 = λ k. IsPlaced m n.window old k small p in
    let k : new ≡ old - (to - from) = sym (ap left_or_none e) in
    means_deleted src m t n old from to small p near same r (subst P k a) means
means_cut src m SplitDelete t n old new from to small p near same r e a means =
    let P : ℕ → Type 0 = λ k. IsPlaced m n.window old k small p in
    let k : new ≡ old = sym (ap left_or_none e) in
    means_changed src m emptied t n old from to small p near same r (subst P k a) means
means_cut src m Trim t n old new from to small p near same r e a means = absurd (subst IsThere (sym e) tt)
