-- Rows with other blocks in place of some.
use Rattle.std.proofs.Common.{◌≡◌, ℕ, ◌≤◌, List, ◌++◌, length, take, drop, ap, ap₂, ◌∙◌, arith, length-append}
use Rattle.pcm_base.specs.{declared.block.BlockRef.BlockRef, Blocks.NoneEmpty, Blocks.blocks_len}
use Rattle.block_sequence.specs.Rows.{flat, from_to, spliced, IsEdge}
use Rattle.block_sequence.proofs.FlatRows.{blocks_len-append, edge_front, edge_back, length_few}
use Rattle.block_sequence.proofs.FromTo.{joined_again}

module _ (rs : List (List BlockRef)) (row at last end from to : ℕ) (middle : List BlockRef)
    (first : IsEdge rs row at) (second : IsEdge rs last end) (before : at ≤ from) (after : to ≤ end) where
  -- shared rows, the new blocks, and shared rows
  pub relaid : flat (take row rs)
      ++ ((from_to at from (flat rs) ++ (middle ++ from_to to end (flat rs))) ++ flat (drop last rs))
      ≡ spliced from to middle (flat rs)
  relaid =
      let new = from_to at from (flat rs) ++ (middle ++ from_to to end (flat rs)) in
      ap₂ (λ (bs cs : List BlockRef). bs ++ (new ++ cs)) (edge_front rs row at first) (edge_back rs last end second)
      ∙ joined_again at from to end (flat rs) middle before after

  pub relaid_few : blocks_len (from_to at from (flat rs) ++ (middle ++ from_to to end (flat rs)))
      ≤ blocks_len (spliced from to middle (flat rs))
  relaid_few =
      let new = from_to at from (flat rs) ++ (middle ++ from_to to end (flat rs)) in
      let e = ap blocks_len relaid in
      let f = blocks_len-append (flat (take row rs)) (new ++ flat (drop last rs)) in
      let g = blocks_len-append new (flat (drop last rs)) in
      omega (arith, e, f, g)

pub middle_few : (from to : ℕ) (middle bs : List BlockRef) → NoneEmpty (spliced from to middle bs)
    → length middle ≤ blocks_len (spliced from to middle bs)
middle_few from to middle bs h =
    let e = length_few (spliced from to middle bs) h in
    let f = length-append (take from bs) (middle ++ drop to bs) in
    let g = length-append middle (drop to bs) in
    omega (arith, e, f, g)
