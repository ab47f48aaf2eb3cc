-- A new track, and then a pin.
use Rattle.pin_turn.specs.Calls.{known}
use Rattle.studio_seats.specs.Desks.{start_at}
use Rattle.desk_session.proofs.OpeningLemmas.{opens_both, tag_on, tells_both}
use Rattle.desk_session.proofs.opening.open.Goals as goal

pub returns-clause-opens : goal.returns-clause-opens
returns-clause-opens g c =
    let r = c.open_recording-recording in
    let p = c.open_playback-pin in
    opens_both _ _ (known c.args.seat.now) (known r.new.seat) (known p.new.seat) r.ensures.opens p.ensures.opens

pub returns-clause-tag : goal.returns-clause-tag
returns-clause-tag g c =
    let r = c.open_recording-recording in
    let p = c.open_playback-pin in
    tag_on r.result.0 _ (known r.new.seat).seen (known p.new.seat).seen p.ensures.opens.onward.added
    p.ensures.opens.onward.seen r.ensures.tag

pub returns-clause-at : goal.returns-clause-at
returns-clause-at g c =
    let r = c.open_recording-recording in
    let p = c.open_playback-pin in
    tells_both (start_at c.args.desk.now).commit_number (known c.args.seat.now) (known r.new.seat) (known p.new.seat)
    r.result.1 p.result.1 c.max.result r.ensures.at p.ensures.at c.max.ensures
