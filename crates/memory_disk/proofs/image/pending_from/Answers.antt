-- The call before is a sync of the file.
use Rattle.memory_disk.proofs.Common.{refl}
use Rattle.memory_disk.proofs.LeftCalls.{after_sync}
use Rattle.memory_disk.proofs.image.pending_from.Goals as goal

pub returns-else-not-is_sync_of-clause-settled : goal.returns-else-not-is_sync_of-clause-settled
returns-else-not-is_sync_of-clause-settled c = λ row.
    after_sync row c.args.calls.now c.loop-from.from c.args.file _ c.loop-from-test.true c.loop-from.invariant.bound
    (c.if-not-is_sync_of.ensures.yes refl).0 (c.if-not-is_sync_of.ensures.yes refl).1
