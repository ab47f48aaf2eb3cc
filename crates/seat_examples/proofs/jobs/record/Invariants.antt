-- The taker's seat went on by pieces of the recording and reclaims.
use Rattle.std.proofs.Common.{◌≡◌, ◌+◌}
use Rattle.pin_turn.specs.Calls.{known}
use Rattle.studio_seats.specs.{Desks.start_at, Onward.Onward, Recording.RecorderAsks}
use Rattle.seat_examples.specs.Jobs.{piece_count}
use Rattle.seat_examples.proofs.jobs.record.Given as goal

abbrev pub invariant-pieces : goal.invariant-pieces
invariant-pieces g l = record {
  desk : l.taker.desk.now ≡ l.desk;
  track : l.taker.track ≡ l.fn.recording.track;
  tag : l.taker.tag ≡ l.fn.recording.tag;
  goes : Onward (RecorderAsks l.fn.recording.track l.fn.recording.tag) (known l.fn.seat) (known l.taker.seat);
  pieces : piece_count l.fn.recording.track l.fn.recording.tag (start_at l.desk).commit_number (known l.taker.seat)
      ≡ piece_count l.fn.recording.track l.fn.recording.tag (start_at l.desk).commit_number (known l.fn.seat) + l.number;
}
