-- The tracks so far fit, and those that are left end where all of them do.
use Rattle.record_body.proofs.Common.{◌-◌, length, tracks_widths}
use Rattle.record_body.proofs.Reaching.{PartsFit}
use Rattle.record_body.proofs.measuring.fit_tracks.Given as goal

abbrev pub invariant-loop : goal.invariant-loop
invariant-loop l =
    PartsFit (λ n at. tracks_widths n at l.bytes) (length l.bytes) l.at l.count l.end (l.count - l.counter)
