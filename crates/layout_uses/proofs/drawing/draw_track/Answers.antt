-- A track that has a number is the current one.
use Rattle.layout_uses.proofs.Common.{inl, refl, sym, subst, ◌∙◌, Track, AllBelow}
use Rattle.project_state.proofs.Points.{some_is}
use Rattle.layout_uses.proofs.Draws.{kept_among}
use Rattle.layout_uses.proofs.drawing.draw_track.Goals as goal

pub share-requires-clause-above : goal.share-requires-clause-above
share-requires-clause-above c = λ t there.
    subst (λ (x : Track). AllBelow x.id c.args.point.now) (some_is c.args.track.now t (sym c.requires.here ∙ there))
    c.requires.above

pub returns-then-number-gt0 : goal.returns-then-number-gt0
returns-then-number-gt0 c =
    let t : Track = c.args.track.now in (
      t,
      c.in_ok-share.ensures.added t c.requires.here,
      refl,
      refl,
      inl (
        t,
        kept_among c.args.current.now c.args.tracks.now c.args.i t c.requires.here c.requires.kept c.if-number-gt0.true,
        refl,
        refl,
      ),
    )
