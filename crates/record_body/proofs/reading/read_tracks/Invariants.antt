-- The tracks so far, whose ids are lower, and those that are left; the tests so far pass, and those that are left
-- decide.
use Rattle.record_body.proofs.Common.{◌≡◌, ◌+◌, ◌-◌, length, AllBelow, tracks_size}
use Rattle.record_body.proofs.Steps.{SoFar, tracks_row}
use Rattle.record_body.proofs.reading.read_tracks.Given as goal

abbrev pub invariant-loop : goal.invariant-loop
invariant-loop l =
    SoFar (tracks_row l.limits l.bytes) l.count 0 l.at (l.count - l.counter) l.from l.next l.point
    × (l.next + tracks_size (l.count - l.counter) l.next l.bytes ≡ l.at + tracks_size l.count l.at l.bytes)
    × AllBelow l.from l.point
    × (length l.point ≡ l.counter)
