-- The goals of `append_gap` that the search leaves open.
use Rattle.clip_track.proofs.Common.{◌+◌, List, ◌++◌, ap, ◌∙◌, on_ok_weaker, Cell, strip_len, strip_cells}
use Rattle.clip_track.proofs.Strips.{AreItems-append, strip_len-append, strip_cells-append, ItemsFit-append}
use Rattle.clip_track.proofs.Layouts.{AreItems-gap, strip_len-gap, strip_cells-gap, ItemsFit-gap}
use Rattle.clip_track.proofs.items.append_gap.Goals as goal

pub returns-clause-ok : goal.returns-clause-ok
returns-clause-ok c = on_ok_weaker c.push_gap.result (λ e.
    rw e (AreItems-append c.args.out.now.items _ c.requires.old_ok (AreItems-gap c.args.n))) c.push_gap.ensures.items

pub returns-clause-len : goal.returns-clause-len
returns-clause-len c = on_ok_weaker c.push_gap.result
    (λ e. ap strip_len e ∙ strip_len-append c.args.out.now.items _
    ∙ ap (λ n. strip_len c.args.out.now.items + n) (strip_len-gap c.args.n))
    c.push_gap.ensures.items

pub returns-clause-cells : goal.returns-clause-cells
returns-clause-cells c = on_ok_weaker c.push_gap.result
    (λ e src. ap (strip_cells src) e ∙ strip_cells-append src c.args.out.now.items _
    ∙ ap (λ (xs : List Cell). strip_cells src c.args.out.now.items ++ xs) (strip_cells-gap src c.args.n))
    c.push_gap.ensures.items

pub returns-clause-fit : goal.returns-clause-fit
returns-clause-fit c = on_ok_weaker c.push_gap.result
    (λ e m a. rw e (ItemsFit-append m c.args.out.now.items _ a (ItemsFit-gap m c.args.n))) c.push_gap.ensures.items
