-- From the leaf up, each node above it becomes a parent again.
use Rattle.std.proofs.Common.{◌≡◌, ℕ, ◌+◌, ◌*◌, ◌/◌, ◌≤◌, ◌<◌, Option, None, List, drop, set, ◌∙◌, ap, arith}
use Rattle.std.proofs.lemmas.List.{length-set, get_or_read, drop-set-lt, drop-set-add}
use Rattle.block_ledger.specs.Tree.{lesser, node}
use Rattle.block_ledger.proofs.Trees.{node_written}
use Rattle.block_ledger.proofs.tree.LeastTree.change.Goals as goal

pub loop-node-preserved : goal.loop-node-preserved
loop-node-preserved c =
    let all = c.loop-node.invariant in
    let leaves = c.loop-node.self-inside.leaves in
    let nodes = c.loop-node.self-inside.nodes.items in
    let i = c.loop-node.node / 2 in
    let least : 1 ≤ i = omega (arith, c.loop-node-test.true) in
    let inner : i < leaves = omega (arith, all.2) in
    let left : c.index.result.now ≡ node nodes (2 * i) =
    get_or_read nodes (2 * i) c.index.result.now (omega (arith, inner, all.3)) c.index.ensures None in
    let right : c.index-in-loop-node.result.now ≡ node nodes (2 * i + 1) = get_or_read nodes
    (2 * i + 1) c.index-in-loop-node.result.now (omega (arith, inner, all.3)) c.index-in-loop-node.ensures None in
    let is = c.lesser.ensures ∙ ap (λ (o : Option ℕ). lesser o c.index-in-loop-node.result.now) left
    ∙ ap (λ (o : Option ℕ). lesser (node nodes (2 * i)) o) right in (
      all.0,
      least,
      omega (arith, inner),
      length-set nodes i c.lesser.result ∙ all.3,
      node_written leaves i nodes c.lesser.result least (omega (arith, inner, all.3)) all.4 is,
      drop-set-lt leaves nodes i c.lesser.result inner ∙ all.5,
    )

pub returns : goal.returns
returns c =
    let all = c.loop-node.invariant in
    let nodes = c.self.inside.nodes.items in
    all.5
    ∙ ap (λ (n : ℕ). drop n (set nodes (c.self.inside.leaves + c.args.leaf) c.args.id)) all.0
    ∙ drop-set-add c.self.inside.leaves nodes c.args.leaf c.args.id
    ∙ ap (λ (l : List (Option ℕ)). set l c.args.leaf c.args.id) c.self.view_is
