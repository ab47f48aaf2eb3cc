-- Clips and blocks that are passed.
use Rattle.cell_reader.proofs.Common.{Contains, replicate, ◌≡◌, ℕ, ◌+◌, ◌-◌, ◌≤◌, ◌<◌, ⊎_elim, List, [], ◌∷◌, ◌++◌}
use Rattle.cell_reader.proofs.Common.{length, take, drop, map, min, get_or, refl, sym, ap, ap₂, subst, ◌∙◌, arith}
use Rattle.cell_reader.proofs.Common.{length-append, length-drop, append_assoc, append-nil, drop_all, length-take}
use Rattle.cell_reader.proofs.Common.{length-map, length-replicate, map-append, take_min, get_or-append_right}
use Rattle.cell_reader.proofs.Common.{Contains-append_right, cases_lt, BlockRef, Cell, Sources, blocks_len}
use Rattle.cell_reader.proofs.Common.{block_samples, part, length-blocks, Clip, AreClips, end_of}
use Rattle.cell_reader.proofs.Common.{clip_end, cells_from, layout_cells, layout_blocks, AreClips-next, AllNamed}
use Rattle.cell_reader.proofs.Common.{Entries, HasBlocks, HasClips, HasRest, rest_cells, rest_blocks, IsRest, IsRestOf}
use Rattle.cell_reader.proofs.Common.{place_in, Puts, View, TrackRest}
use Rattle.std.proofs.lemmas.List.{get_or-take, get_or-drop, get_or_past, get_or-replicate, get_or-map}
use Rattle.std.proofs.lemmas.List.{get_or_append_left, ext_get_or}
use Rattle.block_sequence.proofs.FlatRows.{blocks_len-append, block_samples-append}
use Rattle.cell_reader.specs.{Kept.left_blocks, Rests.AreSeen, Rests.EndsBehind}
use Rattle.cell_reader.proofs.{KeptLaws.blocks_back, PartLists.take_front, SeenLaws.named_front, SeenLaws.named_back}
use borrow.Rule.Slice.PartMut.{put_mid}
use Rattle.pcm_base.specs.declared.sound.Cell.TheVariants as cell

abbrev pub cells_at : Sources → ℕ → ℕ → ℕ → List BlockRef → List Clip → List Cell
cells_at src at start end bs cs =
    replicate (start - at) cell.Gap ++ map cell.Sample (block_samples src bs) ++ cells_from src end cs

-- a front of a rest's cells is passed
moved : (from : ℕ) (cs : List Clip) (r r' : TrackRest) (gone : List BlockRef) (xs : Sources → List Cell) → IsRest r'
    → r'.at ≤ from
    → ((src : Sources) → r.at + length (xs src) ≡ r'.at)
    → ((src : Sources) → rest_cells src r ≡ xs src ++ rest_cells src r')
    → end_of r'.end r'.clips.now ≡ end_of r.end r.clips.now → rest_blocks r ≡ gone ++ rest_blocks r'
    → ((a : Entries) (view : View) → HasRest a view r → HasRest a view r') → IsRestOf from cs r → IsRestOf from cs r'
moved from cs r r' gone xs rest passed size cells same blocks kept is = record {
  rest = rest;
  passed = passed;
  same_end = same ∙ is.same_end;
  cells = λ src i le.
      let place : i - r.at - length (xs src) ≡ i - r'.at = omega (arith, size src) in
      ap (λ (k : ℕ). get_or (rest_cells src r') k cell.Gap) (sym place)
      ∙ sym (get_or-append_right (xs src) (rest_cells src r') (length (xs src)) (i - r.at) cell.Gap refl
      (omega (arith, size src, le, passed)))
      ∙ ap (λ (ys : List Cell). get_or ys (i - r.at) cell.Gap) (sym (cells src))
      ∙ is.cells src i le;
  blocks = λ b has. is.blocks b (subst (λ (bs : List BlockRef). Contains bs b) (sym blocks)
      (Contains-append_right gone (rest_blocks r') b has));
  kept = λ a from to has. kept a (record { from = from; to = to }) (is.kept a from to has);
}

module _ (r r' : TrackRest) (gone : List BlockRef) (same : left_blocks r ≡ gone ++ left_blocks r') (at : r'.at
    ≡ r.start + blocks_len gone) (start : r'.start ≡ r'.at) (row : r'.row_end ≡ r'.start + blocks_len r'.blocks.now)
    (end : r'.end ≡ r.end) (clips : r'.clips.now ≡ r.clips.now) where
  abbrev left : List BlockRef
  left = left_blocks r'

  pub blocks_rest : IsRest r → IsRest r'
  blocks_rest is =
      let N : List BlockRef → Type 0 = AllNamed in
      let C : List Clip → Type 0 = λ cs. AreClips r.end cs in
      let L : List Clip → Type 0 = λ cs. AllNamed (layout_blocks cs) in
      let A : ℕ → Type 0 = λ n. AreClips n r'.clips.now in
      record {
        later = omega (arith, start);
        row = row;
        whole = omega (arith, start, at, end, is.whole, ap blocks_len same, blocks_len-append gone left);
        apart = subst A (sym end) (subst C (sym clips) is.apart);
        few = omega (arith, ap (end_of r.end) clips, ap (λ n. end_of n r'.clips.now) end, is.few);
        named = named_back gone left (subst N same is.named);
        clips_named = subst L (sym clips) is.clips_named;
      }

  blocks_cells : (src : Sources) → rest_cells src r
      ≡ (replicate (r.start - r.at) cell.Gap ++ map cell.Sample (block_samples src gone)) ++ rest_cells src r'
  blocks_cells src =
      let gap : List Cell = replicate (r.start - r.at) cell.Gap in
      let one : List Cell = map cell.Sample (block_samples src gone) in
      let more : List Cell = map cell.Sample (block_samples src left) in
      let rest : List Cell = cells_from src r.end r.clips.now in
      let none : 0 ≡ r'.start - r'.at = omega (arith, start) in
      ap (λ (bs : List BlockRef). cells_at src r.at r.start r.end bs r.clips.now) same
      ∙ ap (λ (xs : List Cell). (gap ++ xs) ++ rest)
      (ap (map cell.Sample) (block_samples-append src gone left)
      ∙ map-append cell.Sample (block_samples src gone) (block_samples src left))
      ∙ ap (λ (xs : List Cell). xs ++ rest) (sym (append_assoc gap one more))
      ∙ append_assoc (gap ++ one) more rest
      ∙ ap (λ (xs : List Cell). (gap ++ one) ++ (more ++ xs)) (ap₂ (λ n cs. cells_from src n cs) (sym end) (sym clips))
      ∙ ap (λ (n : ℕ). (gap ++ one) ++ ((replicate n cell.Gap ++ more) ++ cells_from src r'.end r'.clips.now)) none

  blocks_kept : (a : Entries) (view : View) → HasRest a view r → HasRest a view r'
  blocks_kept a view has =
      let B : List BlockRef → Type 0 = HasBlocks a view r.start in
      let P : ℕ → Type 0 = λ n. HasBlocks a view n left in
      let C : List Clip → Type 0 = HasClips a view in
      (subst P (sym (start ∙ at)) (blocks_back a view r.start gone left (subst B same has.0)), subst C (sym clips) has.1)

  pub blocks_passed : IsRest r → (from : ℕ) (cs : List Clip) → r'.at ≤ from → IsRestOf from cs r → IsRestOf from cs r'
  blocks_passed ok from cs passed is =
      let xs : Sources → List Cell =
      λ src. replicate (r.start - r.at) cell.Gap ++ map cell.Sample (block_samples src gone) in
      moved from cs r r' gone xs (blocks_rest ok) passed
      (λ src. omega (
        arith,
        length-append (replicate (r.start - r.at) cell.Gap) (map cell.Sample (block_samples src gone)),
        length-replicate (r.start - r.at) cell.Gap,
        length-map (block_samples src gone) cell.Sample,
        length-blocks src gone,
        at,
        ok.later,
      ))
      blocks_cells (ap₂ (λ n ds. end_of n ds) end clips)
      (ap₂ (λ bs ds. bs ++ layout_blocks ds) same (sym clips) ∙ append_assoc gone left (layout_blocks r'.clips.now))
      blocks_kept is

module _ (r r' : TrackRest) (c : Clip) (same : r.clips.now ≡ c ∷ r'.clips.now) (at : r'.at ≡ r.end) (start : r'.start
    ≡ c.start) (end : r'.end ≡ c.start + blocks_len c.blocks) (blocks : left_blocks r' ≡ c.blocks)
    (row : r'.row_end ≡ r'.start + blocks_len r'.blocks.now) where
  pub clip_rest : IsRest r → IsRest r'
  clip_rest is =
      let C : List Clip → Type 0 = λ cs. AreClips r.end cs in
      let L : List Clip → Type 0 = λ cs. AllNamed (layout_blocks cs) in
      let N : List BlockRef → Type 0 = AllNamed in
      let A : ℕ → Type 0 = λ n. AreClips n r'.clips.now in
      let here = subst C same is.apart in
      let all = subst L same is.clips_named in
      record {
        later = omega (arith, at, start, here.0);
        row = row;
        whole = omega (arith, start, end, ap blocks_len blocks);
        apart = subst A (sym end) (AreClips-next r.end c r'.clips.now here);
        few = omega (arith, ap (end_of r.end) same, ap (λ n. end_of n r'.clips.now) end, is.few);
        named = subst N (sym blocks) (named_front c.blocks (layout_blocks r'.clips.now) all);
        clips_named = named_back c.blocks (layout_blocks r'.clips.now) all;
      }

  clip_cells : (src : Sources) → rest_cells src r
      ≡ (replicate (r.start - r.at) cell.Gap ++ map cell.Sample (block_samples src (left_blocks r))) ++ rest_cells src r'
  clip_cells src =
      let gap : List Cell = replicate (r.start - r.at) cell.Gap in
      let sound : List Cell = map cell.Sample (block_samples src (left_blocks r)) in
      ap (λ (ds : List Clip). (gap ++ sound) ++ cells_from src r.end ds) same
      ∙ ap (λ (xs : List Cell). (gap ++ sound) ++ xs)
      (ap₂ (λ n e. (replicate n cell.Gap ++ map cell.Sample (block_samples src c.blocks))
      ++ cells_from src e r'.clips.now) (ap₂ (λ (a b : ℕ). a - b) (sym start) (sym at)) (sym end)
      ∙ ap (λ (bs : List BlockRef). (replicate (r'.start - r'.at) cell.Gap ++ map cell.Sample (block_samples src bs))
      ++ cells_from src r'.end r'.clips.now) (sym blocks))

  clip_kept : (a : Entries) (view : View) → HasRest a view r → HasRest a view r'
  clip_kept a view has =
      let C : List Clip → Type 0 = HasClips a view in
      let P : ℕ → Type 0 = λ n. HasBlocks a view n (left_blocks r') in
      let B : List BlockRef → Type 0 = HasBlocks a view c.start in
      let more = subst C same has.1 in
      (subst P (sym start) (subst B (sym blocks) more.0), more.1)

  pub clip_passed : IsRest r → (from : ℕ) (cs : List Clip) → r'.at ≤ from → IsRestOf from cs r → IsRestOf from cs r'
  clip_passed ok from cs passed is =
      let xs : Sources → List Cell =
      λ src. replicate (r.start - r.at) cell.Gap ++ map cell.Sample (block_samples src (left_blocks r)) in
      moved from cs r r' (left_blocks r) xs (clip_rest ok) passed
      (λ src. omega (
        arith,
        length-append (replicate (r.start - r.at) cell.Gap) (map cell.Sample (block_samples src (left_blocks r))),
        length-replicate (r.start - r.at) cell.Gap,
        length-map (block_samples src (left_blocks r)) cell.Sample,
        length-blocks src (left_blocks r),
        at,
        ok.later,
        ok.whole,
      ))
      clip_cells (sym (ap (end_of r.end) same ∙ ap (λ n. end_of n r'.clips.now) (sym end)))
      (ap (λ (ds : List Clip). left_blocks r ++ layout_blocks ds) same
      ∙ ap (λ (bs : List BlockRef). left_blocks r ++ (bs ++ layout_blocks r'.clips.now)) (sym blocks)) clip_kept is

-- a rest from one place on is one from a later place on
pub rest_later : (from to : ℕ) (cs : List Clip) (r : TrackRest) → from ≤ to → IsRestOf from cs r → IsRestOf to cs r
rest_later from to cs r le is = record {
  rest = is.rest;
  passed = omega (arith, is.passed, le);
  same_end = is.same_end;
  cells = λ src i after. is.cells src i (omega (arith, le, after));
  blocks = is.blocks;
  kept = is.kept;
}

-- blocks that start after a place end after it
pub ends_later : (from start : ℕ) (bs : List BlockRef) → from < start → EndsBehind from start bs
ends_later from start [] lt = tt
ends_later from start (b ∷ bs) lt = omega (arith, lt)

-- clips end no earlier than they begin
pub ends_from : (at : ℕ) (cs : List Clip) → AreClips at cs → at ≤ end_of at cs
ends_from at [] are = omega arith
ends_from at (c ∷ cs) are = omega (arith, are.0, are.1, ends_from (clip_end c) cs (AreClips-next at c cs are))

pub length_from : (src : Sources) (at : ℕ) (cs : List Clip) → AreClips at cs
    → at + length (cells_from src at cs) ≡ end_of at cs
length_from src at [] are = omega arith
length_from src at (c ∷ cs) are =
    let gap : List Cell = replicate (c.start - at) cell.Gap in
    let sound : List Cell = map cell.Sample (block_samples src c.blocks) in
    omega (
      arith,
      length-append (gap ++ sound) (cells_from src (clip_end c) cs),
      length-append gap sound,
      length-replicate (c.start - at) cell.Gap,
      length-map (block_samples src c.blocks) cell.Sample,
      length-blocks src c.blocks,
      length_from src (clip_end c) cs (AreClips-next at c cs are),
      are.0,
    )

pub length_rest : (src : Sources) (r : TrackRest) → IsRest r
    → r.at + length (rest_cells src r) ≡ end_of r.end r.clips.now
length_rest src r is =
    let gap : List Cell = replicate (r.start - r.at) cell.Gap in
    let sound : List Cell = map cell.Sample (block_samples src (left_blocks r)) in
    omega (
      arith,
      length-append (gap ++ sound) (cells_from src r.end r.clips.now),
      length-append gap sound,
      length-replicate (r.start - r.at) cell.Gap,
      length-map (block_samples src (left_blocks r)) cell.Sample,
      length-blocks src (left_blocks r),
      length_from src r.end r.clips.now is.apart,
      is.later,
      is.whole,
    )

-- what is put, and gaps after it, is what is made of the cells that are seen
pub seen : {A : Type 0} (made : Cell → A) (src : Sources) (view : View) (cs : List Clip) (r : TrackRest) (count m : ℕ)
    (old mid new : List A) → IsRestOf view.from cs r → view.from + length mid ≡ view.to
    → count ≡ place_in view (end_of 0 cs) → Puts made view r.at (rest_cells src r) old mid → m ≡ length mid - count
    → new ≡ take count mid ++ replicate m (made cell.Gap) → AreSeen made src view.from cs new
seen {A = A} made src view cs r count m old mid new is size place puts many whole k lt =
    let cells : List Cell = rest_cells src r in
    let low : ℕ = view.from - r.at in
    let gap : A = made cell.Gap in
    let long = length_rest src r is.rest in
    let front : place_in view r.at ≡ 0 = omega (arith, is.passed) in
    let end : place_in view (r.at + length cells) ≡ count = omega (arith, long, is.same_end, place) in
    let there : take count mid ≡ map made (part low (view.to - r.at) cells) =
    ap (λ (n : ℕ). take n mid) (sym end) ∙ puts
    ∙ ap (λ (n : ℕ). take n old ++ map made (part low (view.to - r.at) cells)) front in
    let offset : low + k ≡ view.from + k - r.at = omega (arith, is.passed) in
    let total : length new ≡ count + m =
    omega (
      arith,
      ap length whole,
      length-append (take count mid) (replicate m gap),
      length-replicate m gap,
      length-take count mid,
      place,
      size,
    ) in
    let fits : length (take count mid) ≡ count = omega (arith, length-take count mid, place, size) in
    let some : length (map made (part low (view.to - r.at) cells)) ≡ count = ap length (sym there) ∙ fits in
    ap (λ (ys : List A). get_or ys k gap) whole
    ∙ ⊎_elim
    (λ (below : k < count).
    get_or_append_left (take count mid) (replicate m gap) gap k (omega (arith, fits, below))
    ∙ ap (λ (ys : List A). get_or ys k gap) there
    ∙ get_or-map made (part low (view.to - r.at) cells) k cell.Gap gap
    (omega (arith, length-map (part low (view.to - r.at) cells) made, some, below))
    ∙ ap made (get_or-take (view.to - r.at - low) (drop low cells) k cell.Gap
    (omega (arith, place, below, is.passed)) ∙ get_or-drop low cells k cell.Gap
    ∙ ap (λ (n : ℕ). get_or cells n cell.Gap) offset))
    (λ (above : count ≤ k).
    get_or-append_right (take count mid) (replicate m gap) count k gap fits above
    ∙ get_or-replicate m (k - count) gap gap (omega (arith, total, lt, above))
    ∙ ap made (sym (get_or_past cells (view.from + k - r.at) cell.Gap
    (omega (arith, long, is.same_end, place, size, above, lt, total, many)))))
    (cases_lt k count)
    ∙ ap made (is.cells src (view.from + k) (omega arith))

-- the end of a list is written anew
pub put_tail : {A : Type 0} (a k : ℕ) (xs ys : List A) → length xs ≤ a + k → put_mid a k xs ys ≡ take a xs ++ ys
put_tail a k xs ys all = ap (λ zs. take a xs ++ (ys ++ zs))
    (drop_all k (drop a xs) (omega (arith, length-drop a xs, all))) ∙ ap (λ zs. take a xs ++ zs) (append-nil ys)

-- cells that are seen from a place on are those of the layout, as many as there are
pub seen_cells : (src : Sources) (from n : ℕ) (cs : List Clip) (count : ℕ) (xs others : List Cell) → length xs ≡ count
    → count ≡ min n (length (layout_cells src cs) - from) → AreSeen (λ c. c) src from cs xs
    → take count (xs ++ others) ≡ take n (drop from (layout_cells src cs))
seen_cells src from n cs count xs others size few are =
    let left : List Cell = drop from (layout_cells src cs) in
    let long : length (take count left) ≡ count =
    omega (arith, length-take count left, length-drop from (layout_cells src cs), few) in
    let all : count ≡ min n (length left) = omega (arith, few, length-drop from (layout_cells src cs)) in
    take_front count xs others size
    ∙ ext_get_or cell.Gap xs (take count left) (size ∙ sym long)
    (λ k lt. are k lt ∙ sym (get_or-take count left k cell.Gap (omega (arith, lt, size))
    ∙ get_or-drop from (layout_cells src cs) k cell.Gap))
    ∙ ap (λ (k : ℕ). take k left) all ∙ take_min n left
