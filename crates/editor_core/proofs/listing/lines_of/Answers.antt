-- One track more.
use Rattle.editor_core.proofs.Common.{sym, ap, ◌∙◌, List, [], ◌∷◌, ◌++◌, map, take, line_of_track, Track, meant}
use Rattle.editor_core.proofs.Common.{take_some}
use Rattle.pcm_base.specs.{declared.sound.TrackLine.TrackLine}
use Rattle.editor_views.proofs.TrackListing.{lines_more}
use Rattle.editor_core.proofs.listing.lines_of.Goals as goal

pub loop-i-preserved : goal.loop-i-preserved
loop-i-preserved c = λ src.
    let ts = c.args.point.now in
    let t = c.track_at.result.now in
    let i = c.loop-i.i in
    c.in_ok-push.ensures.items ∙ ap (λ (z : List TrackLine). z ++ c.line_of.result ∷ []) (c.loop-i.invariant src)
    ∙ ap (λ (x : TrackLine). map line_of_track (meant src (take i ts)) ++ x ∷ []) (c.line_of.ensures src)
    ∙ sym (ap (λ (z : List Track). map line_of_track (meant src z)) (take_some ts i t c.track_at.ensures)
    ∙ lines_more src (take i ts) t)
