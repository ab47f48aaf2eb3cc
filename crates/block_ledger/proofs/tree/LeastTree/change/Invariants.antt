use Rattle.std.proofs.Common.{◌≡◌, ◌≤◌, ◌<◌, ◌*◌, ◌/◌, length, drop}
use Rattle.block_ledger.proofs.Trees.{AllBut}
use Rattle.block_ledger.proofs.tree.LeastTree.change.Given as goal

abbrev pub invariant-loop-node : goal.invariant-loop-node
invariant-loop-node l = (l.self-inside.leaves ≡ l.initial.self-inside.leaves) × (1 ≤ l.node)
    × (l.node < 2 * l.self-inside.leaves) × (length l.self-inside.nodes.items ≡ 2 * l.self-inside.leaves)
    × AllBut l.self-inside.leaves (l.node / 2) l.self-inside.nodes.items × (drop l.self-inside.leaves
    l.self-inside.nodes.items ≡ drop l.self-inside.leaves l.initial.self-inside.nodes.items)

abbrev pub decreases-loop-node : goal.decreases-loop-node
decreases-loop-node l = l.node
