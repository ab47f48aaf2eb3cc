-- The closure of the test fits a turn, since the log of the test stands for any list.
use Rattle.std.proofs.Common.{refl}
use Rattle.pin_turn.specs.Calls.{known}
use Rattle.turn_examples.proofs.log_tests.write_once.Goals as goal

pub with-requires-clause-fits : goal.with-requires-clause-fits
with-requires-clause-fits g c = record {
  may = λ more x others few stood y is. tt;
  leaves = λ more x others few stood r f' x' called. refl;
  by_seat = λ r f'. (record { by = (known c.args.seat.now).number }, refl, refl);
}
