-- What was received is what was sent.
use Rattle.std.proofs.Common.{◌++◌, ◌∙◌, sym, ap}
use Rattle.record_ring.specs.Ends.{known_items}
use Rattle.session_threads.proofs.Together.{recorded-is}
use Rattle.session_threads.proofs.record.record_track.Goals as goal

pub returns : goal.returns
returns g c =
    let captured = c.join-captured.ensures.first in
    let drained = c.join-captured.ensures.second in
    let met = ap (λ r. r ++ known_items c.meet.new.self) (sym c.meet.ensures.received) ∙ c.meet.ensures.fifo
    ∙ c.meet.ensures.sent in
    let same = recorded-is captured.bytes drained.chunks _ _
    (known_items c.meet.new.self) captured.sent_is drained.received_is met in
    record {
      bytes = captured.bytes;
      read = captured.read;
      stopped = captured.stopped;
      takes = rw (← same) drained.takes;
      mic_goes = captured.goes;
      taker_goes = drained.goes;
    }
