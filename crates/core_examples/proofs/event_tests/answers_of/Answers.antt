-- Each call is in form, whatever was committed.
use Rattle.core_examples.proofs.event_tests.answers_of.Goals as goal

pub run_events-requires-clause-in_form : goal.run_events-requires-clause-in_form
run_events-requires-clause-in_form g c = (
  c.line.ensures _,
  (
    c.line-2.ensures _,
    (
      c.asks.ensures _,
      (
        c.line-3.ensures _,
        (
          c.asks-2.ensures _,
          (c.asks-3.ensures _, (c.line-4.ensures _, (c.asks-4.ensures _, (c.asks-5.ensures _, tt)))),
        ),
      ),
    ),
  ),
)
