-- Each block of the history is noted, and is counted by its layouts.
use Rattle.editor_recovery.proofs.Common.{counts_of, history_tracks}
use Rattle.editor_recovery.proofs.Ledgers.{counted_then, points_few, points_there, tally_then}
use Rattle.editor_recovery.proofs.counting.count_layouts.Goals as goal

pub count_points-requires-clause-there : goal.count_points-requires-clause-there
count_points-requires-clause-there c =
    points_there c.args.files.now c.args.history.now.history c.requires.named (counts_of c.in_ok-tally.tally.ledger)
    c.in_ok-tally.ensures.noted

pub count_points-requires-clause-few : goal.count_points-requires-clause-few
count_points-requires-clause-few c =
    points_few c.args.files.now c.args.history.now.history c.requires.named (counts_of c.in_ok-tally.tally.ledger)
    c.in_ok-tally.ensures.noted c.requires.few

pub returns-clause-counted : goal.returns-clause-counted
returns-clause-counted c =
    tally_then c.args.history.now.history c.in_ok-tally.tally c.count_points.new.tally c.requires.fits
    c.in_ok-tally.ensures.counted c.in_ok-count_points.ensures

pub returns-clause-ids : goal.returns-clause-ids
returns-clause-ids c =
    counted_then c.args.files.now (history_tracks c.args.history.now.history) c.in_ok-tally.tally
    c.count_points.new.tally c.in_ok-tally.ensures.noted c.in_ok-count_points.ensures
