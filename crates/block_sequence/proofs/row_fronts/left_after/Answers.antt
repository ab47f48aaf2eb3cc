-- A row that is passed goes from the front, and what is left to pass is as much less.
use Rattle.std.proofs.Common.{◌≡◌, ◌+◌, ◌-◌, ◌≤◌, ◌++◌, length, drop, sym, ap, ◌∙◌, arith, length-append}
use Rattle.std.proofs.Math.Seq.{drop-append_seam}
use Rattle.std.proofs.lemmas.List.{drop-drop, drop_all}
use Rattle.block_sequence.specs.Rows.{flat}
use Rattle.block_sequence.proofs.row_fronts.left_after.Goals as goal

pub rows-preserved : goal.rows-preserved
rows-preserved c =
    let i = c.rows.invariant in
    let xs = c.rows.left.blocks.now in
    let us = flat c.rows.left.rows.now in
    let n = length xs in
    let passed : n + (c.rows.skip - n) ≡ c.rows.skip = omega (arith, c.rows-test.true) in
    let left = c.after-left.ensures.all ∙ ap (λ zs. zs ++ us) (drop_all n xs (omega arith)) in
    record {
      all = ap (drop (c.rows.skip - n)) (left ∙ sym (drop-append_seam xs us))
          ∙ drop-drop (c.rows.skip - n) n (xs ++ us)
          ∙ ap (λ k. drop k (xs ++ us)) passed
          ∙ i.all;
      size = omega (arith, ap length left, length-append xs us, i.size, passed);
      first = c.after-left.ensures.first;
    }
