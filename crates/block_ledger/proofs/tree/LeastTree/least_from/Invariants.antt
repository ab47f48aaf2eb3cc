-- The nodes that are left, and what was seen beside them.
use Rattle.block_ledger.proofs.Covers.{Covers}
use Rattle.block_ledger.proofs.tree.LeastTree.least_from.Given as goal

abbrev pub invariant-loop-from : goal.invariant-loop-from
invariant-loop-from l = Covers l.self-inside.leaves l.leaf l.self-inside.nodes.items l.least l.from l.to

abbrev pub decreases-loop-from : goal.decreases-loop-from
decreases-loop-from l = l.to
