-- Blocks whose pieces come in order, after others that do.
use Rattle.editor_blocks.proofs.Common.{rules, ◌≤◌, ℕ, List, [], ◌∷◌, ◌++◌, arith, Piece, Old, Scaled, Zero, Given}
use Rattle.editor_blocks.proofs.Common.{NewBlock, AreInOrder, AllInOrder}
use Rattle.block_writer.specs.Brought.{LiesBetween}

pub order_append : (low mid high : ℕ) (xs ys : List NewBlock) → AllInOrder low mid xs → AllInOrder mid high ys
    → AllInOrder low high (xs ++ ys)
order_append low mid high [] ys first second = lower low mid high ys first second
  where
    lower : (low mid high : ℕ) (ys : List NewBlock) → low ≤ mid → AllInOrder mid high ys → AllInOrder low high ys
    lower low mid high [] le order = omega (arith, le, order)
    lower low mid high (y ∷ ys) le order =
        (order.0, begin_lower low mid order.0 y.pieces le order.1, order.2)
      where
        lies_lower : (low mid high : ℕ) (p : Piece) → low ≤ mid → LiesBetween mid high p → LiesBetween low high p
        lies_lower low mid high (Old b from to) le lies = tt
        lies_lower low mid high (Scaled b from to gain) le lies = tt
        lies_lower low mid high (Zero len) le lies = tt
        lies_lower low mid high (Given from to) le lies = search rules

        begin_lower : (low mid high : ℕ) (ps : List Piece) → low ≤ mid → AreInOrder mid high ps
            → AreInOrder low high ps
        begin_lower low mid high [] le order = omega (arith, le, order)
        begin_lower low mid high (p ∷ ps) le order =
            (order.0, omega (arith, le, order.1), lies_lower low mid order.0 p le order.2, order.3)
order_append low mid high (x ∷ xs) ys first second = search (rules, order_append first.0 mid high xs ys first.2 second)
