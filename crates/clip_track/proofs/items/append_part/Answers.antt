-- The goals of `append_part` that the search leaves open.
use Rattle.clip_track.proofs.Common.{◌+◌, List, ◌++◌, ap, ◌∙◌, on_ok_weaker, Cell, strip_len, strip_cells}
use Rattle.clip_track.proofs.Strips.{AreItems-append, AreItems-part, strip_len-append, strip_len-part_most}
use Rattle.clip_track.proofs.Strips.{strip_cells-append, strip_cells-part, ItemsFit-append, ItemsFit-part}
use Rattle.clip_track.proofs.items.append_part.Goals as goal

pub returns-clause-ok : goal.returns-clause-ok
returns-clause-ok c = on_ok_weaker c.append_all_items.result
    (λ e. rw e (AreItems-append c.args.out.now.items _ c.requires.old_ok
    (AreItems-part c.args.skip c.args.n c.args.items.now c.requires.ok)))
    c.append_all_items.ensures.items

pub returns-clause-len : goal.returns-clause-len
returns-clause-len c = on_ok_weaker c.append_all_items.result
    (λ e. ap strip_len e ∙ strip_len-append c.args.out.now.items _
    ∙ ap (λ n. strip_len c.args.out.now.items + n) (strip_len-part_most c.args.skip c.args.n c.args.items.now))
    c.append_all_items.ensures.items

pub returns-clause-cells : goal.returns-clause-cells
returns-clause-cells c = on_ok_weaker c.append_all_items.result
    (λ e src. ap (strip_cells src) e ∙ strip_cells-append src c.args.out.now.items _ ∙ ap (λ (xs : List Cell).
    strip_cells src c.args.out.now.items ++ xs) (strip_cells-part src c.args.skip c.args.n c.args.items.now))
    c.append_all_items.ensures.items

pub returns-clause-fit : goal.returns-clause-fit
returns-clause-fit c = on_ok_weaker c.append_all_items.result
    (λ e m a b.
    rw e (ItemsFit-append m c.args.out.now.items _ a (ItemsFit-part m c.args.skip c.args.n c.args.items.now b)))
    c.append_all_items.ensures.items
