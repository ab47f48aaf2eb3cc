-- A look, and then a listing.
use Rattle.editor_recovery.proofs.Common.{◌∙◌, kept_turn}
use Rattle.editor_recovery.proofs.{Alone.none_false, Counted.causes_turn, Created.none_there}
use Rattle.editor_recovery.proofs.creating.may_create.Goals as goal

pub returns-in-Ok-false-clause-kept : goal.returns-in-Ok-false-clause-kept
returns-in-Ok-false-clause-kept g c = kept_turn c.is_there.ensures.kept c.list_none.ensures.kept

pub returns-in-Ok-false-clause-cause : goal.returns-in-Ok-false-clause-cause
returns-in-Ok-false-clause-cause g c = causes_turn g.S.Store c.args.store.now c.is_there.new.store c.list_none.new.store
    c.list_none.result c.in-Ok-false.ensures.cause c.list_none.ensures.cause

pub returns-in-Ok-false-clause-answer : goal.returns-in-Ok-false-clause-answer
returns-in-Ok-false-clause-answer g c = λ tells.
    let kept = c.is_there.ensures.kept in
    none_there (g.S.Store.reads c.args.store.now) c.list_none.result
    (none_false (g.S.Store.reads c.args.store.now) c.in-Ok-false.field-0 c.in-Ok-false.field-0-test
    (c.in-Ok-false.ensures.there tells))
    (rw kept.same_reads at (c.list_none.ensures.lists (kept.same_tells ∙ tells)))
