-- One number for each turn.
use Rattle.editor_core.proofs.Common.{◌≡◌, replicate}
use Rattle.editor_core.proofs.counts.counts_of.Given as goal

abbrev pub invariant-loop : goal.invariant-loop
invariant-loop l = l.counts.items ≡ replicate l.counter l.head.frames
