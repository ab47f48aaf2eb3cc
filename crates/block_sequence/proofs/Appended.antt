-- Rows, and after them some blocks of other rows.
use Rattle.std.proofs.Common.{◌≡◌, ℕ, ◌+◌, ◌-◌, ◌≤◌, List, ◌++◌, length, take, drop, sym, ap, ap₂, ◌∙◌, arith}
use Rattle.std.proofs.Common.{append_assoc}
use Rattle.std.proofs.lemmas.List.{append-nil, drop_all, take_all, take-append-drop, take-take, drop-take, drop-drop}
use Rattle.std.proofs.lemmas.List.{drop_at}
use Rattle.pcm_base.specs.{declared.block.BlockRef.BlockRef, Blocks.blocks_len}
use Rattle.block_sequence.specs.Rows.{flat, from_to, spliced, IsEdge}
use Rattle.block_sequence.proofs.FlatRows.{blocks_len-append, edge_front, flat-append, flat_within}

-- blocks in place of none at the end
pub spliced_end : (middle bs : List BlockRef) → spliced (length bs) (length bs) middle bs ≡ bs ++ middle
spliced_end middle bs =
    ap₂ (λ (xs ys : List BlockRef). xs ++ (middle ++ ys)) (take_all (length bs) bs (omega arith))
    (drop_all (length bs) bs (omega arith))
    ∙ ap (λ (ys : List BlockRef). bs ++ ys) (append-nil middle)

-- from one place by way of another
pub from_to_by : {A : Type 0} (from mid to : ℕ) (xs : List A) → from ≤ mid → mid ≤ to
    → from_to from mid xs ++ from_to mid to xs ≡ from_to from to xs
from_to_by from mid to xs h k =
    let ys = drop from xs in
    let size = mid - from in
    let e : size + (to - mid) ≡ to - from = omega (arith, h, k) in
    let f : from + size ≡ mid = omega (arith, h) in
    let front : from_to from mid xs ≡ take size (take (to - from) ys) =
    sym (take-take size (to - from) ys (omega (arith, h, k))) in
    let back : from_to mid to xs ≡ drop size (take (to - from) ys) =
    ap (λ n. take (to - mid) (drop n xs)) (sym f)
    ∙ ap (take (to - mid)) (sym (drop-drop size from xs))
    ∙ sym (drop-take size (to - mid) ys)
    ∙ ap (λ n. drop size (take n ys)) e in
    ap₂ ◌++◌ front back ∙ take-append-drop size (take (to - from) ys)

module _ (rs : List (List BlockRef)) (row at last end : ℕ) (first : IsEdge rs row at) (second : IsEdge rs last end)
    (rising : row ≤ last) where
  -- a later edge
  pub edges_rise : at ≤ end
  edges_rise =
      let e = ap (λ (ss : List (List BlockRef)). length (flat ss)) (take-take row last rs rising) in
      omega (arith, e, flat_within (take last rs) row, first.same_at, second.same_at)

  -- the rows between two edges
  pub flat_between : flat (take (last - row) (drop row rs)) ≡ from_to at end (flat rs)
  flat_between =
      let e : row + (last - row) ≡ last = omega (arith, rising) in
      let f : at + (end - at) ≡ end = omega (arith, edges_rise) in
      let between = take (last - row) (drop row rs) in
      let rows : take last rs ≡ take row rs ++ between =
      sym (take-append-drop row (take last rs))
      ∙ ap₂ ◌++◌ (take-take row last rs rising)
      (ap (λ n. drop row (take n rs)) (sym e) ∙ drop-take row (last - row) rs) in
      sym (drop_at (flat (take row rs)) (flat between) at first.same_at)
      ∙ ap (drop at) (sym (flat-append (take row rs) between) ∙ ap flat (sym rows) ∙ edge_front rs last end second)
      ∙ ap (λ n. drop at (take n (flat rs))) (sym f)
      ∙ drop-take at (end - at) (flat rs)

-- a part of blocks holds no more
pub front_few : (bs cs ds es : List BlockRef) → cs ++ ds ≡ es → blocks_len (bs ++ cs) ≤ blocks_len (bs ++ es)
front_few bs cs ds es e = omega (
  arith,
  blocks_len-append bs cs,
  blocks_len-append bs es,
  ap blocks_len e,
  blocks_len-append cs ds,
)

pub back_few : (bs cs ds es : List BlockRef) → cs ++ ds ≡ es → blocks_len ds ≤ blocks_len (bs ++ es)
back_few bs cs ds es e =
    omega (arith, blocks_len-append bs es, ap blocks_len e, blocks_len-append cs ds)

-- copied blocks, shared rows, and copied blocks
pub three_parts : (bs : List BlockRef) (from at end to : ℕ) (xs : List BlockRef) → from ≤ at → at ≤ end → end ≤ to
    → bs ++ from_to from at xs ++ from_to at end xs ++ from_to end to xs ≡ bs ++ from_to from to xs
three_parts bs from at end to xs h k l =
    let a = from_to from at xs in
    let b = from_to at end xs in
    let c = from_to end to xs in
    ap (λ (ys : List BlockRef). ys ++ c) (append_assoc bs a b)
    ∙ append_assoc bs (a ++ b) c
    ∙ ap (λ (ys : List BlockRef). bs ++ (ys ++ c)) (from_to_by from at end xs h k)
    ∙ ap (λ (ys : List BlockRef). bs ++ ys) (from_to_by from end to xs (omega (arith, h, k)) l)

-- others after the first ones, of which a part comes in place of all that go
pub ended : (kept count : ℕ) (bs first rest : List BlockRef) → count ≡ length bs
    → spliced kept count first bs ++ rest ≡ take kept bs ++ (first ++ rest)
ended kept count bs first rest all =
    ap (λ (ys : List BlockRef). (take kept bs ++ (first ++ ys)) ++ rest) (drop_all count bs (omega (arith, all)))
    ∙ ap (λ (ys : List BlockRef). (take kept bs ++ ys) ++ rest) (append-nil first)
    ∙ append_assoc (take kept bs) first rest
