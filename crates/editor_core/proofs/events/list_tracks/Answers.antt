-- One track more, and all of them.
use Rattle.editor_core.proofs.Common.{◌∙◌, List, [], ◌∷◌, ◌++◌, sym, ap, arith, take_all, LoadedTrack, take_some}
use Rattle.editor_core.proofs.Common.{cut_in}
use Rattle.mixdown.proofs.LoadLaws.{length_cut}
use Rattle.editor_core.proofs.events.list_tracks.Goals as goal

pub rows-preserved : goal.rows-preserved
rows-preserved c =
    let all : List LoadedTrack = cut_in c.args.len c.args.samples.now c.args.gains.now c.args.sides.now in
    let t : LoadedTrack = c.in_ok-track.track in
    c.in_ok-push.ensures.items ∙ ap (λ (ts : List LoadedTrack). ts ++ t ∷ []) c.rows.invariant
    ∙ sym (take_some all c.rows.i t c.in_ok-track.ensures)

pub returns : goal.returns
returns c =
    let all : List LoadedTrack = cut_in c.args.len c.args.samples.now c.args.gains.now c.args.sides.now in
    c.rows.invariant ∙ take_all c.rows.i all (omega (
      arith,
      c.rows-test.false,
      length_cut c.args.len c.args.samples.now c.args.gains.now c.args.sides.now c.requires.sides,
    ))
