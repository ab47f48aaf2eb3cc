-- The track goes last.
use Rattle.std.proofs.Common.{ap, subst, sym, ◌∙◌, [], ◌∷◌, ◌<◌, length}
use Rattle.std.proofs.lemmas.List.{map-append}
use Rattle.std.specs.Arc.{arc_value}
use Rattle.project_state.specs.{Tracks.AllBelow, Tracks.IsPoint, Shared.tracks_of}
use Rattle.project_state.proofs.Points.{IsPoint-push}
use Rattle.project_state.proofs.point.Point.put.Goals as goal

pub invariant_of-self-2 : goal.invariant_of-self-2
invariant_of-self-2 c =
    let few = subst (λ ts. length ts < 64) (sym c.self.view_is) c.requires.few in
    subst IsPoint (sym (ap tracks_of (c.in_ok-push.ensures.items)
    ∙ map-append arc_value c.self.inside.tracks.items (c.args.track ∷ [])))
    (IsPoint-push (tracks_of c.self.inside.tracks.items) (arc_value c.args.track) c.self.invariant
    (subst (AllBelow (arc_value c.args.track).id) (sym c.self.view_is) c.requires.above) few)
