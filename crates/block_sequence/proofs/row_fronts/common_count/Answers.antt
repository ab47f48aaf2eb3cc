-- The blocks in common are passed, and those that are left decide.
use Rattle.std.proofs.Common.{◌≡◌, ◌+◌, length, drop, sym, ap, ap₂, ◌∙◌, arith, length-append, length-drop}
use Rattle.block_sequence.specs.{Fronts.common, Rows.flat}
use Rattle.block_sequence.proofs.Fronts.{common_none, common_past, count_more}
use Rattle.block_sequence.proofs.row_fronts.common_count.Goals as goal

pub rows-init : goal.rows-init
rows-init c =
    let a = c.left_after-left.ensures in
    let b = c.left_after-other.ensures in
    let r = c.requires in
    let n = c.args.kept in
    let past = common_past n (flat c.args.a.now) (flat c.args.b.now) r.a r.b r.same in
    let same = c.common_blocks-same.ensures in
    record {
      all = ap (λ k. n + k) (ap₂ common a.all b.all) ∙ sym past;
      same = same.value;
      a = same.a;
      b = same.b;
      size = omega (arith, ap length a.all, length-drop n (flat c.args.a.now), r.a);
      first = a.first;
      other_first = b.first;
    }

pub rows-preserved : goal.rows-preserved
rows-preserved c =
    let i = c.rows.invariant in
    let n = c.rows.same in
    let xs = c.rows.left.blocks.now in
    let us = flat c.rows.left.rows.now in
    let ys = c.rows.other.blocks.now in
    let vs = flat c.rows.other.rows.now in
    let e = count_more xs ys us vs n _ _ i.same c.after-left.ensures.all c.after-other.ensures.all in
    let less = ap length c.after-left.ensures.all in
    record {
      all = omega (arith, e, i.all);
      same = c.common_blocks-same-in-rows.ensures.value;
      a = c.common_blocks-same-in-rows.ensures.a;
      b = c.common_blocks-same-in-rows.ensures.b;
      size = omega (arith, less, length-append (drop n xs) us, length-drop n xs, length-append xs us, i.size, i.a);
      first = c.after-left.ensures.first;
      other_first = c.after-other.ensures.first;
    }

pub returns : goal.returns
returns c =
    let i = c.rows.invariant in
    let none : c.rows.same ≡ 0 = omega (arith, c.rows-test.false) in
    let e = common_none c.rows.left.blocks.now c.rows.other.blocks.now _ _ (sym i.same ∙ none) i.first i.other_first in
    omega (arith, e, i.all)
