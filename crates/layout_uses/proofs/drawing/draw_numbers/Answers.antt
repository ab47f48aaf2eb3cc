-- One track more has its number.
use Rattle.layout_uses.proofs.Common.{sym, subst, ap, ◌∙◌, List, ◌++◌, ◌∷◌, [], map, take, arith, length-take}
use Rattle.layout_uses.proofs.Common.{map-append, Track, unnumbered, take_some, Draws, HasNumbers}
use Rattle.project_state.proofs.Points.{taken_below}
use Rattle.layout_uses.proofs.Draws.{below_same, numbers_more, numbers_none, same_length}
use Rattle.layout_uses.proofs.drawing.draw_numbers.Goals as goal

pub loop-i-init : goal.loop-i-init
loop-i-init c = (
  subst (λ z. HasNumbers c.args.current.now c.args.next z c.args.next) (sym c.new-point.ensures)
      (numbers_none c.args.current.now c.args.next),
  ap (map unnumbered) c.new-point.ensures,
  omega arith,
)

pub draw_track-requires-clause-above : goal.draw_track-requires-clause-above
draw_track-requires-clause-above c =
    let ts = c.args.tracks.now in
    below_same _ c.loop-i.point (take c.loop-i.i ts) c.loop-i.invariant.1
    (taken_below ts c.loop-i.i c.len-i-end.ensures.rising _ c.track_at-track.ensures)

pub draw_track-requires-clause-few : goal.draw_track-requires-clause-few
draw_track-requires-clause-few c =
    let so_far = take c.loop-i.i c.args.tracks.now in
    omega (
      arith,
      same_length c.loop-i.point so_far c.loop-i.invariant.1,
      length-take c.loop-i.i c.args.tracks.now,
      c.loop-i-test.true,
      c.len-i-end.ensures.few,
    )

pub loop-i-preserved : goal.loop-i-preserved
loop-i-preserved c =
    let ts = c.args.tracks.now in
    let is = c.in_ok-number.ensures in
    let t : Track = is.0 in (
      subst (λ z. HasNumbers c.args.current.now c.args.next z c.next_after-after.result) (sym is.1)
          (numbers_more c.args.current.now c.args.next c.loop-i.point c.loop-i.after c.loop-i.invariant.0 t
          (subst (Draws t.layout c.args.current.now c.loop-i.after) (sym is.3) is.4) c.next_after-after.result
          c.next_after-after.ensures.least (λ e. c.next_after-after.ensures.given (sym is.3 ∙ e))),
      ap (map unnumbered) is.1 ∙ map-append unnumbered c.loop-i.point (t ∷ [])
          ∙ ap (λ (z : List Track). z ++ unnumbered t ∷ []) c.loop-i.invariant.1
          ∙ ap (λ (z : Track). map unnumbered (take c.loop-i.i ts) ++ z ∷ []) is.2
          ∙ sym (map-append unnumbered (take c.loop-i.i ts) (_ ∷ []))
          ∙ ap (map unnumbered) (sym (take_some ts c.loop-i.i _ c.track_at-track.ensures)),
      omega (arith, c.next_after-after.ensures.most, c.loop-i.invariant.2),
    )
