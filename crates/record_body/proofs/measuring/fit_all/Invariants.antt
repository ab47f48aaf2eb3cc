-- The fields so far fit, and those that are left end where all of them do.
use Rattle.record_body.proofs.Common.{◌≡◌, ◌+◌, ◌≤◌, drop, total_width, reach}
use Rattle.std.proofs.Common.{All}
use Rattle.record_body.proofs.measuring.fit_all.Given as goal

abbrev pub invariant-loop-width : goal.invariant-loop-width
invariant-loop-width l =
    (l.end ≤ l.len) × (l.end + total_width (drop l.width-index l.widths) ≡ l.at + total_width l.widths)
    × (reach l.len l.end (drop l.width-index l.widths) ≡ reach l.len l.at l.widths)
    × All (λ w. w ≤ 8) (drop l.width-index l.widths)
