-- The name and its number.
use Rattle.script_text.proofs.reasons.put_wav_fault.Goals as goal

pub returns-in-BadChannels-clause-bytes : goal.returns-in-BadChannels-clause-bytes
returns-in-BadChannels-clause-bytes g c = λ start text said.
    rw c.in-BadChannels.is
    (rw c.from-in-BadChannels.ensures at c.put_named-in-BadChannels.ensures.bytes start text said)
