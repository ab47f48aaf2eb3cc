-- None of the numbers so far refuses.
use Rattle.editor_core.proofs.Common.{◌≡◌, drop, length_limit}
use Rattle.editor_core.proofs.counts.length_refusal.Given as goal

abbrev pub invariant-loop-count : goal.invariant-loop-count
invariant-loop-count l = length_limit (drop l.count-index l.counts) ≡ length_limit l.counts
