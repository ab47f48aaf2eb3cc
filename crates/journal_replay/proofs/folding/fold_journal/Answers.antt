-- The project of the header, and then the records.
use Rattle.journal_replay.proofs.Common.{[], arith, kept_turn}
use Rattle.journal_replay.proofs.Pointed.{heading_format}
use Rattle.journal_replay.proofs.folding.fold_journal.Goals as goal

pub fold_records-requires-clause-least : goal.fold_records-requires-clause-least
fold_records-requires-clause-least g c =
    let format = heading_format g.S.Store c.args.store.now c.args.reader.now [] c.requires in
    omega (arith, format.block_least, c.block_size-m.ensures)

pub returns-clause-kept : goal.returns-clause-kept
returns-clause-kept g c = kept_turn c.in_ok-project.ensures.kept c.fold_records.ensures.kept
