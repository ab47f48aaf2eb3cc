-- A track more has a current one's number: it is that one, or it has that one's layout.
use Rattle.layout_uses.proofs.Common.{inl, refl, sym, ap, ◌∙◌, Track}
use Rattle.layout_uses.proofs.Draws.{at_among, same_but_number}
use Rattle.layout_uses.proofs.drawing.draw_new.Goals as goal

pub returns-then-same_settings : goal.returns-then-same_settings
returns-then-same_settings c =
    let old : Track = c.track_at-old.result.now in
    let here = c.track_at-old.ensures in
    let like = c.in-Some.ensures.like old here in
    let heard = c.same_settings.ensures c.if-same_settings.true in (
      old,
      c.in_ok-share.ensures.added old here,
      same_but_number old c.args.track.now like.0 heard.0 heard.1 heard.2 like.1,
      refl,
      inl (old, at_among c.args.current.now c.in-Some.i old here, refl, refl),
    )

pub returns : goal.returns
returns c =
    let old : Track = c.track_at-old.result.now in
    let new : Track = c.in_ok-with_layout-2.field-0 in
    let here = c.track_at-old.ensures in
    let like = c.in-Some.ensures.like old here in
    let is = c.in_ok-with_layout-2.ensures in (
      new,
      c.in_ok-push-2.ensures.added,
      ap (λ (t : Track). record t { number = 0 }) is ∙ (λ k. record c.args.track.now { number = 0; layout = like.1 k }),
      ap (λ (t : Track). t.number) is,
      inl (old, at_among c.args.current.now c.in-Some.i old here, sym (ap (λ (t : Track). t.layout) is), refl),
    )
