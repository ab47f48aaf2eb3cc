-- The name.
use Rattle.script_text.proofs.reasons.put_reason.Goals as goal

pub returns-in-EmptyClipboard-clause-bytes : goal.returns-in-EmptyClipboard-clause-bytes
returns-in-EmptyClipboard-clause-bytes g c =
    λ start text said. rw c.in-EmptyClipboard.is (c.put-in-EmptyClipboard.ensures.bytes start text said)

pub returns-in-NothingToRedo-clause-bytes : goal.returns-in-NothingToRedo-clause-bytes
returns-in-NothingToRedo-clause-bytes g c =
    λ start text said. rw c.in-NothingToRedo.is (c.put-in-NothingToRedo.ensures.bytes start text said)

pub returns-in-RateDiffers-clause-bytes : goal.returns-in-RateDiffers-clause-bytes
returns-in-RateDiffers-clause-bytes g c = λ start text said.
    rw c.in-RateDiffers.is
    (rw (c.from.ensures, c.from-wanted.ensures) at c.put_pair-in-RateDiffers.ensures.bytes start text said)

pub returns-in-RecordLimit-clause-bytes : goal.returns-in-RecordLimit-clause-bytes
returns-in-RecordLimit-clause-bytes g c =
    λ start text said. rw c.in-RecordLimit.is (c.put_named-in-RecordLimit.ensures.bytes start text said)
