-- The track that was found is the one of the current point.
use Rattle.record_body.proofs.Common.{Option, subst, Track, AgreesIfAny}
use Rattle.record_body.proofs.changes_writing.choice_in.Goals as goal

pub choose-requires-clause-numbers : goal.choose-requires-clause-numbers
choose-requires-clause-numbers c =
    subst (λ (o : Option Track). AgreesIfAny o c.args.track.now) c.in-Ok.ensures c.requires.numbers

pub choose-requires-clause-kept : goal.choose-requires-clause-kept
choose-requires-clause-kept c = c.requires.kept _ c.in-Ok.ensures
