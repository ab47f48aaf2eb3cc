-- What the loop of `last_started` keeps.
use Rattle.edit_ops.proofs.Common.{◌-◌, ◌<◌, length}
use Rattle.edit_ops.proofs.windows.last_started.Given as goal

abbrev pub invariant-rows : goal.invariant-rows
invariant-rows l = l.at < length l.clips

abbrev pub decreases-rows : goal.decreases-rows
decreases-rows l = length l.clips - l.at
