-- The law of the lemmas.
use Rattle.record_body.proofs.SavedOnce.{either_keeps}
use Rattle.record_body.proofs.laws.a_packed_journal_keeps_its_project.Goals as goal

pub returns : goal.returns
returns c = either_keeps
