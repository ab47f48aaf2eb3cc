-- The pin was made before the recording's track, whose number is the tag.
use Rattle.std.proofs.Common.{rules, refl}
use Rattle.pin_turn.specs.Calls.{known}
use Rattle.seat_examples.proofs.CallLemmas.{made_still}
use Rattle.seat_examples.proofs.session.begin.Goals as goal

pub returns-clause-ready : goal.returns-clause-ready
returns-clause-ready g c =
    let goes = c.line-made.ensures.goes in
    let before = (known c.pinned.new.seat).seen in
    let after = (known c.line-made.new.seat).seen in
    let counted = c.line-made.ensures.commit refl in
    record {
      made = made_still c.in_ok-pin.pin before after goes.added goes.seen c.in_ok-pin.ensures.made;
      least = search (rules, counted);
      most = c.line-made.ensures.number;
    }
