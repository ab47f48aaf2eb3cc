-- By the sizes that were measured.
use Rattle.editor_recovery.proofs.Common.{size_in}
use Rattle.editor_recovery.proofs.{Counted.causes_none, Measures.named_listed, Measures.one_length, Opens.measured}
use Rattle.editor_recovery.proofs.{Points.all_blocks, Refusals.measured_opens, Refusals.refusal_opens}
use Rattle.editor_recovery.proofs.finding.test_files.Goals as goal

pub returns-in-Ok-clause-tests : goal.returns-in-Ok-clause-tests
returns-in-Ok-clause-tests g c = λ tells are.
    measured (g.S.Store.reads c.args.store.now) (size_in c.in-Ok.sizes) (all_blocks c.args.history.now.history.points)
    c.test_blocks.result (c.in-Ok.ensures.sizes tells are) c.test_blocks.ensures.tests

pub returns-in-Ok-clause-named : goal.returns-in-Ok-clause-named
returns-in-Ok-clause-named g c =
    named_listed c.args.files.now (size_in c.in-Ok.sizes) c.args.history.now.history.points c.test_blocks.result
    c.requires.blocks c.in-Ok.ensures.listed c.test_blocks.ensures.tests

pub returns-in-Ok-clause-cause : goal.returns-in-Ok-clause-cause
returns-in-Ok-clause-cause g c = causes_none g.S.Store c.args.store.now c.measure.new.store c.test_blocks.result
    c.in-Ok.ensures.cause c.test_blocks.ensures.no_fault

pub returns-in-Ok-clause-one_length : goal.returns-in-Ok-clause-one_length
returns-in-Ok-clause-one_length g c =
    one_length (size_in c.in-Ok.sizes)
    (all_blocks c.args.history.now.history.points) c.test_blocks.result c.test_blocks.ensures.tests

pub returns-in-Ok-clause-opening : goal.returns-in-Ok-clause-opening
returns-in-Ok-clause-opening g c =
    measured_opens (size_in c.in-Ok.sizes) (all_blocks c.args.history.now.history.points) c.test_blocks.result
    c.test_blocks.ensures.tests

pub returns-in-Err-clause-opening : goal.returns-in-Err-clause-opening
returns-in-Err-clause-opening g c = refusal_opens c.in-Err.fault c.in-Err.ensures.refused
