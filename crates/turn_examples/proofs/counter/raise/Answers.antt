-- The closure fits a turn: a raise more is what the counter stands for then.
use Rattle.std.proofs.Common.{◌≡◌, ◌+◌, ◌++◌, length, refl, arith, ap, sym, ◌∙◌}
use Rattle.pin_turn.specs.Calls.{known, start_of}
use Rattle.turn_examples.specs.declared.counter.Counter.{Counter}
use Rattle.turn_examples.proofs.CounterLemmas.{IsRaised-more}
use Rattle.turn_examples.proofs.counter.raise.Goals as goal

pub with-requires-clause-fits : goal.with-requires-clause-fits
with-requires-clause-fits g c = record {
  may = λ more x others few stood y is.
      let count : y.now.count ≡ (start_of c.args.turn.now).count + length ((known c.args.seat.now).seen ++ more) =
      ap (λ (z : Counter). z.count) is ∙ stood.count in
      let small = c.requires.small in
      omega (arith, count, few, small);
  leaves = λ more x others few stood r f' x' called.
      IsRaised-more _ x x' _ _ stood (called.called.met.0 ∙ ap (λ (z : Counter). z.count) called.shows)
      (ap (λ (z : Counter). z.count) (sym called.leaves) ∙ called.called.met.1
      ∙ ap (λ (z : Counter). z.count + 1) called.shows);
  by_seat = λ r f'. (record { by = (known c.args.seat.now).number; found = r }, refl, refl);
}
