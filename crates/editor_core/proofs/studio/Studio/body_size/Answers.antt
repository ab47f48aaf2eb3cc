-- The current point is that of the history.
use Rattle.editor_core.proofs.Common.{List, subst, sym, Track, BodyAgrees}
use Rattle.record_body.specs.Numbers.{BodyKeeps}
use Rattle.editor_core.proofs.studio.Studio.body_size.Goals as goal

pub delta_len-requires-clause-numbers : goal.delta_len-requires-clause-numbers
delta_len-requires-clause-numbers g c =
    subst (λ (ts : List Track). BodyAgrees ts c.args.body.now) (sym c.current_of.ensures) c.requires.numbers

pub delta_len-requires-clause-kept : goal.delta_len-requires-clause-kept
delta_len-requires-clause-kept g c =
    subst (λ (ts : List Track). BodyKeeps c.args.kept ts c.args.body.now) (sym c.current_of.ensures) c.requires.kept
