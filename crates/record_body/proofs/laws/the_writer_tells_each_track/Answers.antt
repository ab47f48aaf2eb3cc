-- The laws of the lemmas.
use Rattle.record_body.proofs.Common.{Some, None}
use Rattle.record_body.proofs.ChangeLaws.{choice_says, same_stays, fewest_gone}
use Rattle.record_body.proofs.laws.the_writer_tells_each_track.Goals as goal

pub returns-clause-tells : goal.returns-clause-tells
returns-clause-tells c None t same = choice_says None t same
returns-clause-tells c (Some old) t same = choice_says (Some old) t same

pub returns-clause-same : goal.returns-clause-same
returns-clause-same c = same_stays

pub returns-clause-fewest : goal.returns-clause-fewest
returns-clause-fewest c = fewest_gone
