-- A head is found at the wanted rate, or there is a reason that some sound has.
use Rattle.sound_import.proofs.FoundLaws.{rate_reason, some_refused, sound_less}
use Rattle.sound_import.proofs.find.find_sound.Goals as goal

pub returns-in-Ok-clause-reason : goal.returns-in-Ok-clause-reason
returns-in-Ok-clause-reason g c =
    rate_reason c.at_rate.result c.in-Ok.head c.args.rate c.at_rate.ensures.refused c.in-Ok.ensures.rate
    c.at_rate.ensures.fits

pub returns-in-Err-clause-reason : goal.returns-in-Err-clause-reason
returns-in-Err-clause-reason g c = some_refused c.args.rate c.in-Err.fault c.in-Err.ensures.reason

pub returns-in-Err-clause-short : goal.returns-in-Err-clause-short
returns-in-Err-clause-short g c = λ want have. sound_less c.in-Err.fault want have c.in-Err.ensures.reason
