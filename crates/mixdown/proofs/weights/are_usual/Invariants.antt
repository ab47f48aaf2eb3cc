-- The first k gains are such.
use Rattle.mixdown.proofs.Common.{◌≤◌, ◌<◌, ℕ, get_or}
use Rattle.pcm_base.specs.declared.limits.TheConstants.{MAX_GAIN}
use Rattle.mixdown.proofs.weights.are_usual.Given as goal

abbrev pub invariant-loop-k : goal.invariant-loop-k
invariant-loop-k l = (j : ℕ) → j < l.k → get_or l.gains j 0 ≤ MAX_GAIN
