-- The goals of `replace` that the search leaves open.
use Rattle.clip_track.proofs.Common.{◌-◌, List, ◌++◌, take, drop, sym, subst, ap, ap₂, ◌∙◌, strip_cells, ItemsFit, Item}
use Rattle.clip_track.proofs.Strips.{all_cells, end_cells}
use Rattle.clip_track.proofs.clips.Layout.replace.Goals as goal

pub returns-clause-cells : goal.returns-clause-cells
returns-clause-cells c src =
    let whole = c.in_ok-whole.whole in
    let all = c.in_ok-whole.ensures.cells src in
    ap (strip_cells src) c.from_items.ensures
    ∙ c.in_ok-append_part-3.ensures.cells src
    ∙ ap₂ ◌++◌
    (c.in_ok-append_part-2.ensures.cells src
    ∙ ap₂ ◌++◌
    (c.in_ok-append_part.ensures.cells src
    ∙ ap₂ ◌++◌ (ap (strip_cells src) c.new-out.ensures.items)
    (ap (λ xs. take c.args.from (strip_cells src xs)) c.as_slice.ensures.value ∙ ap (take c.args.from) all))
    (ap (λ xs. take c.len.result (strip_cells src xs)) c.as_slice-2.ensures.value
    ∙ all_cells src c.args.middle.now c.len.result c.len.ensures))
    (ap (λ xs. take (c.len-2.result - c.args.to) (drop c.args.to (strip_cells src xs))) c.as_slice-3.ensures.value
    ∙ end_cells src whole c.args.to (c.len-2.result - c.args.to) (ap (λ n. n - c.args.to) c.len-2.ensures)
    ∙ ap (drop c.args.to) all)

pub returns-clause-fit : goal.returns-clause-fit
returns-clause-fit c m h k =
    let P : List Item → Type 0 = ItemsFit m in
    let whole = c.in_ok-whole.ensures.fit m h in
    let first = c.in_ok-append_part.ensures.fit m (subst P (sym c.new-out.ensures.items) tt)
    (subst P (sym c.as_slice.ensures.value) whole) in
    let second = c.in_ok-append_part-2.ensures.fit m first (subst P (sym c.as_slice-2.ensures.value) k) in
    subst P (sym c.from_items.ensures)
    (c.in_ok-append_part-3.ensures.fit m second (subst P (sym c.as_slice-3.ensures.value) whole))
