-- Nothing valid is refused.
use Rattle.journal_replay.proofs.Valid.{leading_valid_in}
use Rattle.journal_replay.proofs.laws.records_that_lead_have_no_fault.Goals as goal

pub returns : goal.returns
returns c = leading_valid_in
