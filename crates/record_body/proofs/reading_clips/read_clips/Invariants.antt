-- The clips so far, and those that are left; the tests so far pass, and those that are left decide.
use Rattle.record_body.proofs.Common.{◌≡◌, ◌+◌, ◌-◌, clips_size}
use Rattle.record_body.proofs.Steps.{SoFar, clips_row}
use Rattle.record_body.proofs.reading_clips.read_clips.Given as goal

abbrev pub invariant-loop : goal.invariant-loop
invariant-loop l =
    SoFar (clips_row l.limits l.bytes) l.count 0 l.at (l.count - l.counter) l.from l.next l.clips.items
    × (l.next + clips_size (l.count - l.counter) l.next l.bytes ≡ l.at + clips_size l.count l.at l.bytes)
