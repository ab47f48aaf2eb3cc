-- What was received is what was sent.
use Rattle.std.proofs.Common.{◌++◌, ◌∙◌, sym, ap}
use Rattle.play_ring.specs.Ends.{known_items}
use Rattle.session_threads.proofs.Together.{played-is, Writes-along, count-exact}
use Rattle.session_threads.proofs.play.play_mix.Goals as goal

pub returns : goal.returns
returns g c =
    let filled = c.join-filled.ensures.first in
    let spoken = c.join-filled.ensures.second in
    let met = ap (λ r. r ++ known_items c.meet.new.self) (sym c.meet.ensures.received) ∙ c.meet.ensures.fifo
    ∙ c.meet.ensures.sent in
    let same = played-is filled.sends.frames spoken.frames _ _
    (known_items c.meet.new.self) filled.sends.sent_is spoken.received_is met in
    let writes = Writes-along same spoken.writes in
    record {
      frames = filled.sends.frames;
      first = filled.sends.told;
      whole = filled.sends.whole;
      place = filled.place;
      given = filled.sends.given;
      writes = writes;
      exact = count-exact writes filled.sends.small;
      giver_shows = filled.same;
      cause = filled.cause;
      giver_goes = filled.goes;
      speaker_goes = spoken.goes;
    }
