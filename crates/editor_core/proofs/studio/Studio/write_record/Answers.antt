-- The current point is that of the history.
use Rattle.editor_core.proofs.Common.{List, subst, sym, Track, BodyAgrees}
use Rattle.record_body.specs.Numbers.{BodyKeeps}
use Rattle.editor_core.proofs.studio.Studio.write_record.Goals as goal

pub write_delta_body-requires-clause-numbers : goal.write_delta_body-requires-clause-numbers
write_delta_body-requires-clause-numbers g c =
    subst (λ (ts : List Track). BodyAgrees ts c.args.body.now) (sym c.current_of.ensures) c.requires.numbers

pub write_delta_body-requires-clause-kept : goal.write_delta_body-requires-clause-kept
write_delta_body-requires-clause-kept g c =
    subst (λ (ts : List Track). BodyKeeps c.args.kept ts c.args.body.now) (sym c.current_of.ensures) c.requires.kept
