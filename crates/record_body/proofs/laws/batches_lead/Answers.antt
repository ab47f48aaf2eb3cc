use Rattle.record_body.proofs.Batched.{batches_lead}
use Rattle.record_body.proofs.laws.batches_lead.Goals as goal

pub returns : goal.returns
returns c = batches_lead
