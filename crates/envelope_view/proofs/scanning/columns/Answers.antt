-- A test that refuses reads nothing.
use Rattle.envelope_view.proofs.Common.{inl, inr, ap, sym, ◌∙◌, exit_err, reads_none, layout_blocks}
use Rattle.envelope_view.specs.Answers.{column_tests}
use Rattle.envelope_view.proofs.AnswerLaws.{damaged_of, hits_tests, reads_tests, tests_undamaged, whole_undamaged}
use Rattle.envelope_view.proofs.scanning.columns.Goals as goal

pub returns-in_err-test_columns-clause-tests : goal.returns-in_err-test_columns-clause-tests
returns-in_err-test_columns-clause-tests g c =
    rw (exit_err c.from_residual.result c.from_residual.ensures.1)
    (inl (ap (column_tests c.args.from c.args.to c.args.columns) (sym c.len.ensures.value)
    ∙ c.in_err-test_columns.ensures.tests))

pub returns-in_err-test_columns-clause-valid : goal.returns-in_err-test_columns-clause-valid
returns-in_err-test_columns-clause-valid g c = λ told whole.
    rw (exit_err c.from_residual.result c.from_residual.ensures.1)
    (tests_undamaged _ c.in_err-test_columns.ensures.reasons)

pub returns-in_err-scans-clause-tests : goal.returns-in_err-scans-clause-tests
returns-in_err-scans-clause-tests g c =
    rw (exit_err c.from_residual-in_err-scans.result c.from_residual-in_err-scans.ensures.1) (inr (
      ap (column_tests c.args.from c.args.to c.args.columns) (sym c.len.ensures.value)
          ∙ c.in_ok-test_columns.ensures.tests,
      c.in_err-scans.ensures.reasons,
    ))

pub returns-in_err-scans-clause-valid : goal.returns-in_err-scans-clause-valid
returns-in_err-scans-clause-valid g c = λ told whole.
    rw (exit_err c.from_residual-in_err-scans.result c.from_residual-in_err-scans.ensures.1)
    (whole_undamaged (g.S.Store.reads c.args.reader.now.store) (layout_blocks c.args.layout.now) _ whole
    (damaged_of (g.S.Store.reads c.args.reader.now.store) (layout_blocks c.args.layout.now) _
    (c.in_err-scans.ensures.reads.damaged told)))

pub returns-in_err-test_columns-clause-reads : goal.returns-in_err-test_columns-clause-reads
returns-in_err-test_columns-clause-reads g c =
    rw (exit_err c.from_residual.result c.from_residual.ensures.1)
    (reads_tests _ _ _ _ c.in_err-test_columns.ensures.reasons
    (reads_none tt (g.met.S.Store.may_fewer _)))

pub returns-in_err-scans-clause-reads : goal.returns-in_err-scans-clause-reads
returns-in_err-scans-clause-reads g c =
    rw (exit_err c.from_residual-in_err-scans.result c.from_residual-in_err-scans.ensures.1)
    c.in_err-scans.ensures.reads

pub returns-clause-reads : goal.returns-clause-reads
returns-clause-reads g c = c.in_ok-scans.ensures.reads

pub returns-in_err-test_columns-clause-hit : goal.returns-in_err-test_columns-clause-hit
returns-in_err-test_columns-clause-hit g c = rw (exit_err c.from_residual.result c.from_residual.ensures.1)
    (hits_tests _ c.in_err-test_columns.ensures.reasons)

pub returns-in_err-scans-clause-hit : goal.returns-in_err-scans-clause-hit
returns-in_err-scans-clause-hit g c =
    rw (exit_err c.from_residual-in_err-scans.result c.from_residual-in_err-scans.ensures.1) c.in_err-scans.ensures.hit

pub returns-clause-hit : goal.returns-clause-hit
returns-clause-hit g c = c.in_ok-scans.ensures.hit
