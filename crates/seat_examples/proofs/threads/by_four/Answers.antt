-- A seat that split one off may take it in again, and is then the one that it was.
use Rattle.pin_turn.specs.Calls.{known}
use Rattle.seat_examples.proofs.{CallLemmas.ready_on, SeatLemmas.may_rejoin, SeatLemmas.stays_rejoined}
use Rattle.seat_examples.proofs.threads.by_four.Goals as goal

pub join-requires-clause-away : goal.join-requires-clause-away
join-requires-clause-away g c =
    let made = c.split-other.ensures in
    let one = c.join-one.ensures.first.1 in
    let two = c.join-one.ensures.second.1 in
    may_rejoin (known c.args.seat) _ _ _ _ made.kept.1 made.new.1 made.number one two

pub returns-clause-stays : goal.returns-clause-stays
returns-clause-stays g c =
    let made = c.split-other.ensures in
    let one = c.join-one.ensures.first.1 in
    let two = c.join-one.ensures.second.1 in
    stays_rejoined (known c.args.seat) _ _ _ _ made.kept.1 made.new.1 made.number _ c.join.ensures.kept.1 one two

pub returns-clause-ready : goal.returns-clause-ready
returns-clause-ready g c =
    let stays = returns-clause-stays g c in
    ready_on c.args.setting.session _ (known c.args.seat).seen _ stays.more stays.seen c.requires.ready
