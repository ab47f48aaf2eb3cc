-- A layout from one of its clips on.
use Rattle.cell_reader.proofs.Common.{Contains, replicate, ◌≡◌, ℕ, zero, suc, ◌+◌, ◌-◌, ◌≤◌, ◌<◌, List, [], ◌∷◌, ◌++◌}
use Rattle.cell_reader.proofs.Common.{length, take, drop, map, min, get_or, refl, sym, ap, subst, ⊎_elim, ◌∙◌, arith}
use Rattle.cell_reader.proofs.Common.{length-append, length-drop, append_assoc, get_or-append_right, length-replicate}
use Rattle.cell_reader.proofs.Common.{length-take, Contains-append_right, cases_lt, blocks_len, block_samples, BlockRef}
use Rattle.cell_reader.proofs.Common.{Cell, Sources, Clip, AreClips, IsLayout, end_of, clip_end, cells_from}
use Rattle.cell_reader.proofs.Common.{layout_blocks, layout_cells, AreClips-next, first_of, AllNamed, TrackRest}
use Rattle.cell_reader.proofs.Common.{Entries, HasBlocks, HasClips, HasRest, View, rest_cells, rest_blocks, IsRest}
use Rattle.cell_reader.proofs.Common.{IsRestOf}
use Rattle.std.specs.{List.Sorted.IsNonDecreasingBy}
use Rattle.std.proofs.Common.{◌^◌}
use Rattle.std.proofs.lemmas.List.{replicate-append-replicate, take-append-drop, take_all}
use Rattle.cell_reader.proofs.KeptLaws.{kept_back}
use Rattle.cell_reader.specs.{Kept.left_blocks, Rests.rest_cell}
use Rattle.cell_reader.proofs.{RestLaws.cells_at, RestLaws.length_from, SeenLaws.named_front, SeenLaws.named_back}
use Rattle.pcm_base.specs.declared.sound.Cell.TheVariants as cell

-- clips before others, and those after
clips_front : (at : ℕ) (cs ds : List Clip) → AreClips at (cs ++ ds) → AreClips at cs
clips_front at [] ds are = tt
clips_front at (c ∷ cs) ds are = (are.0, are.1, are.2, clips_front (clip_end c + 1) cs ds are.3)

pub clips_back : (at : ℕ) (cs ds : List Clip) → AreClips at (cs ++ ds) → AreClips (end_of at cs) ds
clips_back at [] ds are = are
clips_back at (c ∷ cs) ds are = clips_back (clip_end c) cs ds (AreClips-next at c (cs ++ ds) are)

pub end_back : (at : ℕ) (cs ds : List Clip) → end_of at (cs ++ ds) ≡ end_of (end_of at cs) ds
end_back at [] ds = refl
end_back at (c ∷ cs) ds = end_back (clip_end c) cs ds

blocks_apart : (cs ds : List Clip) → layout_blocks (cs ++ ds) ≡ layout_blocks cs ++ layout_blocks ds
blocks_apart [] ds = refl
blocks_apart (c ∷ cs) ds =
    ap (λ bs. c.blocks ++ bs) (blocks_apart cs ds)
    ∙ sym (append_assoc c.blocks (layout_blocks cs) (layout_blocks ds))

cells_apart : (src : Sources) (at : ℕ) (cs ds : List Clip)
    → cells_from src at (cs ++ ds) ≡ cells_from src at cs ++ cells_from src (end_of at cs) ds
cells_apart src at [] ds = refl
cells_apart src at (c ∷ cs) ds =
    let here : List Cell =
    replicate (c.start - at) cell.Gap ++ map cell.Sample (block_samples src c.blocks) in
    ap (λ xs. here ++ xs) (cells_apart src (clip_end c) cs ds)
    ∙ sym (append_assoc here (cells_from src (clip_end c) cs) (cells_from src (end_of (clip_end c) cs) ds))

-- clips start one after another
starts_from : (at : ℕ) (cs : List Clip) → AreClips at cs → (j : ℕ) (d : Clip) → j < length cs
    → at ≤ (get_or cs j d).start
starts_from at [] are j d lt = absurd (omega (arith, lt))
starts_from at (c ∷ cs) are zero d lt = are.0
starts_from at (c ∷ cs) are (suc j) d lt =
    omega (arith, starts_from (clip_end c + 1) cs are.3 j d (omega (arith, lt)))

pub starts_rise : (at : ℕ) (cs : List Clip) → AreClips at cs → IsNonDecreasingBy (λ (c : Clip). c.start) cs
starts_rise at [] are i j d le lt = absurd (omega (arith, lt))
starts_rise at (c ∷ cs) are zero zero d le lt = omega arith
starts_rise at (c ∷ cs) are zero (suc j) d le lt =
    omega (arith, starts_from (clip_end c + 1) cs are.3 j d (omega (arith, lt)))
starts_rise at (c ∷ cs) are (suc i) zero d le lt = absurd (omega (arith, le))
starts_rise at (c ∷ cs) are (suc i) (suc j) d le lt =
    starts_rise (clip_end c + 1) cs are.3 i j d (omega (arith, le)) (omega (arith, lt))

-- the rest from a place on before the start of a clip, after which it has those that follow
module _ (from : ℕ) (front more : List Clip) (c : Clip) (r : TrackRest) (late : end_of 0 front ≤ r.at)
    (passed : r.at ≤ from) (before : r.at ≤ c.start) (start : r.start ≡ c.start) (end : r.end ≡ clip_end c)
    (blocks : left_blocks r ≡ c.blocks) (clips : r.clips.now ≡ more) (row : r.row_end ≡ r.start + blocks_len r.blocks.now) where
  near_rest : AreClips 0 (front ++ c ∷ more) → end_of 0 (front ++ c ∷ more) ≤ 2 ^ 32
      → AllNamed (layout_blocks (front ++ c ∷ more)) → IsRest r
  near_rest are few named =
      let N : List BlockRef → Type 0 = AllNamed in
      let L : List Clip → Type 0 = λ cs. AllNamed (layout_blocks cs) in
      let C : List Clip → Type 0 = λ cs. AreClips (clip_end c) cs in
      let A : ℕ → Type 0 = λ n. AreClips n r.clips.now in
      let here = AreClips-next (end_of 0 front) c more (clips_back 0 front (c ∷ more) are) in
      let all : AllNamed (c.blocks ++ layout_blocks more) =
      named_back (layout_blocks front) (layout_blocks (c ∷ more)) (subst N (blocks_apart front (c ∷ more)) named) in
      record {
        later = omega (arith, before, start);
        row = row;
        whole = omega (arith, start, end, ap blocks_len blocks);
        apart = subst A (sym end) (subst C (sym clips) here);
        few = omega (
          arith,
          end_back 0 front (c ∷ more),
          ap (end_of r.end) clips,
          ap (λ n. end_of n more) end,
          few,
        );
        named = subst N (sym blocks) (named_front c.blocks (layout_blocks more) all);
        clips_named = subst L (sym clips) (named_back c.blocks (layout_blocks more) all);
      }

  near_cells : AreClips 0 (front ++ c ∷ more) → (src : Sources) (i : ℕ) → from ≤ i
      → rest_cell src r i ≡ get_or (layout_cells src (front ++ c ∷ more)) i cell.Gap
  near_cells are src i after =
      let e : ℕ = end_of 0 front in
      let heard : List Cell = cells_from src 0 front in
      let gone : List Cell = replicate (r.at - e) cell.Gap in
      let gap : List Cell = replicate (c.start - r.at) cell.Gap in
      let sound : List Cell = map cell.Sample (block_samples src c.blocks) in
      let rest : List Cell = cells_from src (clip_end c) more in
      let is : rest_cells src r ≡ (gap ++ sound) ++ rest =
      ap (λ n. cells_at src r.at n r.end (left_blocks r) r.clips.now) start
      ∙ ap (λ n. cells_at src r.at c.start n (left_blocks r) r.clips.now) end
      ∙ ap (λ bs. cells_at src r.at c.start (clip_end c) bs r.clips.now) blocks
      ∙ ap (λ cs. cells_at src r.at c.start (clip_end c) c.blocks cs) clips in
      let size : c.start - e ≡ (r.at - e) + (c.start - r.at) = omega (arith, late, before) in
      let both : replicate (c.start - e) cell.Gap ≡ gone ++ gap =
      ap (λ n. replicate n cell.Gap) size
      ∙ sym (replicate-append-replicate (r.at - e) (c.start - r.at) cell.Gap) in
      let all : layout_cells src (front ++ c ∷ more) ≡ (heard ++ gone) ++ rest_cells src r =
      cells_apart src 0 front (c ∷ more)
      ∙ ap (λ xs. heard ++ ((xs ++ sound) ++ rest)) both
      ∙ ap (λ xs. heard ++ (xs ++ rest)) (append_assoc gone gap sound)
      ∙ ap (λ xs. heard ++ xs) (append_assoc gone (gap ++ sound) rest)
      ∙ sym (append_assoc heard gone ((gap ++ sound) ++ rest))
      ∙ ap (λ xs. (heard ++ gone) ++ xs) (sym is) in
      let long : length (heard ++ gone) ≡ r.at =
      omega (
        arith,
        length-append heard gone,
        length-replicate (r.at - e) cell.Gap,
        length_from src 0 front (clips_front 0 front (c ∷ more) are),
        late,
      ) in
      sym (ap (λ (xs : List Cell). get_or xs i cell.Gap) all
      ∙ get_or-append_right (heard ++ gone) (rest_cells src r) r.at i cell.Gap long (omega (arith, passed, after)))

  near_blocks : layout_blocks (front ++ c ∷ more) ≡ layout_blocks front ++ rest_blocks r
  near_blocks =
      blocks_apart front (c ∷ more)
      ∙ ap (λ bs. layout_blocks front ++ (bs ++ layout_blocks more)) (sym blocks)
      ∙ ap (λ cs. layout_blocks front ++ (left_blocks r ++ layout_blocks cs)) (sym clips)

  near_kept : (a : Entries) (view : View) → HasClips a view (front ++ c ∷ more) → HasRest a view r
  near_kept a view has =
      let P : ℕ → Type 0 = λ n. HasBlocks a view n (left_blocks r) in
      let B : List BlockRef → Type 0 = HasBlocks a view c.start in
      let C : List Clip → Type 0 = HasClips a view in
      let left = kept_back a view front (c ∷ more) has in
      (subst P (sym start) (subst B (sym blocks) left.0), subst C (sym clips) left.1)

  near_clip : IsLayout (front ++ c ∷ more) → AllNamed (layout_blocks (front ++ c ∷ more))
      → IsRestOf from (front ++ c ∷ more) r
  near_clip is named =
      let gone : List BlockRef = layout_blocks front in
      record {
        rest = near_rest is.apart is.few named;
        passed = passed;
        same_end =
            ap (λ n. end_of n r.clips.now) end ∙ ap (end_of (clip_end c)) clips ∙ sym (end_back 0 front (c ∷ more));
        cells = near_cells is.apart;
        blocks = λ b has. subst (λ (bs : List BlockRef). Contains bs b) (sym near_blocks)
            (Contains-append_right gone (rest_blocks r) b has);
        kept = λ a from to has. near_kept a (record { from = from; to = to }) has;
      }

  pub near_of : (cs : List Clip) → front ++ c ∷ more ≡ cs → IsLayout cs → AllNamed (layout_blocks cs)
      → IsRestOf from cs r
  near_of cs whole is named =
      let L : List Clip → Type 0 = IsLayout in
      let N : List Clip → Type 0 = λ es. AllNamed (layout_blocks es) in
      let R : List Clip → Type 0 = λ es. IsRestOf from es r in
      subst R whole (near_clip (subst L (sym whole) is) (subst N (sym whole) named))

-- the clips from one of them on, as a slice has them
pub cut_before : (cs : List Clip) (first : ℕ) (x : Clip)
    → x ≡ get_or (take (length cs - first) (drop first cs)) 0 x → 1 ≤ length (take (length cs - first) (drop first cs))
    → take first cs ++ x ∷ take (length (take (length cs - first) (drop first cs)) - 1)
    (drop 1 (take (length cs - first) (drop first cs))) ≡ cs
cut_before cs first x is some =
    let ds : List Clip = take (length cs - first) (drop first cs) in
    let more : List Clip = take (length ds - 1) (drop 1 ds) in
    let front : List Clip = take first cs in
    ap (λ (y : Clip). front ++ y ∷ more) is
    ∙ ap (λ ys. front ++ ys) (sym (first_of ds x some))
    ∙ ap (λ ys. front ++ ys) (take_all (length cs - first) (drop first cs) (omega (arith, length-drop first cs)))
    ∙ take-append-drop first cs

-- those before it end by the place, and by its start
pub near_late : (from count first : ℕ) (cs more : List Clip) (x : Clip) → AreClips 0 cs
    → take first cs ++ x ∷ more ≡ cs → first ≡ count - 1 → count ≤ length cs
    → ((k : ℕ) (d : Clip) → k < count → (get_or cs k d).start ≤ from) → end_of 0 (take first cs) ≤ min from x.start
near_late from count first cs more x are whole is bound started =
    let front : List Clip = take first cs in
    let A : List Clip → Type 0 = AreClips 0 in
    let before : end_of 0 front ≤ x.start = (clips_back 0 front (x ∷ more) (subst A (sym whole) are)).0 in
    let here : end_of 0 front ≤ from =
    ⊎_elim
    (λ (some : 0 < count).
    let lt : first < count = omega (arith, is, some) in
    let size : length front ≡ first = omega (arith, length-take first cs, lt, bound) in
    let none : first - first ≡ 0 = omega arith in
    let found : get_or cs first x ≡ x =
    ap (λ (ys : List Clip). get_or ys first x) (sym whole)
    ∙ get_or-append_right front (x ∷ more) first first x size (omega arith)
    ∙ ap (λ k. get_or (x ∷ more) k x) none in
    let start : x.start ≡ (get_or cs first x).start = ap (λ (y : Clip). y.start) (sym found) in
    omega (arith, before, start, started first x lt))
    (λ (none : count ≤ 0).
    let zero_first : first ≡ 0 = omega (arith, is, none) in
    omega (arith, ap (λ n. end_of 0 (take n cs)) zero_first))
    (cases_lt 0 count) in
    omega (arith, before, here)
