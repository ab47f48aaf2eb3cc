-- One layout more, or none.
use Rattle.editor_core.proofs.Common.{sym, ap, ◌∙◌, List, [], ◌∷◌, ◌++◌, take, append-nil, Clip, take_some, run_of}
use Rattle.std.proofs.{lemmas.Grind.flat_map-append}
use Rattle.editor_tracks.specs.Copies.{layouts_at}
use Rattle.editor_core.proofs.copies.run_from.Goals as goal

pub loop-i-preserved : goal.loop-i-preserved
loop-i-preserved c =
    let id = c.args.id in
    let ts = c.args.point.now in
    let t = c.track_at.result.now in
    let i = c.loop-i.i in
    c.in_ok-add_layout.ensures ∙ ap (λ (z : List (List Clip)). z ++ layouts_at id t) c.loop-i.invariant
    ∙ sym (ap (run_of id) (take_some ts i t c.track_at.ensures) ∙ flat_map-append (layouts_at id) (take i ts) (t ∷ [])
    ∙ ap (λ (z : List (List Clip)). run_of id (take i ts) ++ z) (append-nil (layouts_at id t)))
