-- Nothing is named by files that are noted.
use Rattle.editor_recovery.proofs.Common.{counts_of}
use Rattle.editor_recovery.proofs.Ledgers.{noted_tally}
use Rattle.layout_uses.specs.Tallies.{uses_of}
use Rattle.editor_recovery.proofs.counting.no_uses.Goals as goal

pub returns-clause-counted : goal.returns-clause-counted
returns-clause-counted c =
    noted_tally c.args.files.now (uses_of (record { uses = c.new.result; ledger = c.in_ok-ledger.ledger }))
    (counts_of c.in_ok-ledger.ledger) c.new.ensures.counts c.in_ok-ledger.ensures.lists c.in_ok-ledger.ensures.single
    c.in_ok-ledger.ensures.noted
