-- The goals of `copy_one` that the search leaves open.
use Rattle.edit_ops.proofs.Common.{List, sym, ap, subst, ◌∙◌, range_of, Item, strip_cells, layout_blocks, AllOld}
use Rattle.edit_ops.proofs.Common.{ItemsFrom, IsClip}
use Rattle.edit_ops.proofs.Copies.{cells_range, clip_range, from_range}
use Rattle.edit_ops.proofs.{ChangedItems.AllOld-items, Tame.ItemsFrom-layout}
use Rattle.edit_ops.proofs.runs.copy_one.Goals as goal

pub returns : goal.returns
returns c =
    let w = c.in_ok-whole.ensures in
    let e = c.in_ok-range_part.ensures.items in
    let old = subst AllOld (sym w.items) (AllOld-items 0 c.args.t.now) in
    let P : List Item → Type 0 = ItemsFrom (layout_blocks c.args.t.now) 0 in
    let f = subst P (sym w.items) (ItemsFrom-layout 0 c.args.t.now) in
    record {
      cells = λ src. ap (strip_cells src) e ∙ cells_range src c.args.from c.args.to c.in_ok-whole.whole
          ∙ ap (range_of c.args.from c.args.to) (w.cells src);
      len = c.in_ok-range_part.ensures.len;
      clip = λ m h.
          let Q : List Item → Type 0 = IsClip m in
          subst Q (sym e)
          (clip_range m c.args.from c.args.to c.in_ok-whole.whole w.ok old (w.fit m h) (w.short m h) (w.smooth m h));
      origin =
          subst P (sym e) (from_range (layout_blocks c.args.t.now) c.args.from c.args.to c.in_ok-whole.whole w.ok f);
    }
