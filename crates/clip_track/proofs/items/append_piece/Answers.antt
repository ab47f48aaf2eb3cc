-- The goals of `append_piece` that the search leaves open.
use Rattle.clip_track.proofs.Common.{List, ◌++◌, map, ap, ◌∙◌, arith, on_ok_weaker, append-nil, Cell, samples_of}
use Rattle.clip_track.proofs.Common.{strip_len, strip_cells}
use Rattle.pcm_base.specs.{declared.sound.Cell.TheVariants.Sample}
use Rattle.clip_track.proofs.Strips.{AreItems-append, strip_len-append, strip_cells-append, ItemsFit-append}
use Rattle.clip_track.proofs.items.append_piece.Goals as goal

pub returns-clause-ok : goal.returns-clause-ok
returns-clause-ok c = on_ok_weaker c.push_piece.result (λ e.
    rw e (AreItems-append c.args.out.now.items _ c.requires.old_ok (c.requires.ok, tt))) c.push_piece.ensures.items

pub returns-clause-len : goal.returns-clause-len
returns-clause-len c = on_ok_weaker c.push_piece.result
    (λ e. ap strip_len e ∙ strip_len-append c.args.out.now.items _ ∙ omega arith)
    c.push_piece.ensures.items

pub returns-clause-cells : goal.returns-clause-cells
returns-clause-cells c = on_ok_weaker c.push_piece.result
    (λ e src. ap (strip_cells src) e ∙ strip_cells-append src c.args.out.now.items _ ∙ ap (λ (xs : List Cell).
    strip_cells src c.args.out.now.items ++ xs) (append-nil (map Sample (samples_of src c.args.piece))))
    c.push_piece.ensures.items

pub returns-clause-fit : goal.returns-clause-fit
returns-clause-fit c = on_ok_weaker c.push_piece.result
    (λ e m a b. rw e (ItemsFit-append m c.args.out.now.items _ a (b, tt))) c.push_piece.ensures.items
