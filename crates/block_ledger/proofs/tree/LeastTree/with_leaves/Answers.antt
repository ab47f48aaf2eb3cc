-- The leaves are the last half of what was made.
use Rattle.std.proofs.Common.{◌≡◌, ℕ, ◌+◌, ◌*◌, Option, None, drop, replicate, ◌∙◌, ap, arith}
use Rattle.block_ledger.proofs.Trees.{drop_replicate}
use Rattle.block_ledger.proofs.tree.LeastTree.with_leaves.Goals as goal

pub returns : goal.returns
returns c =
    let twice : 2 * c.args.leaves ≡ c.args.leaves + c.args.leaves = omega arith in
    let made : c.resize.new.self.items ≡ replicate {A = Option ℕ} (2 * c.args.leaves) None =
    grind (arith, c.in_ok-resize.ensures.items, c.new-nodes.ensures.items, c.new-nodes.ensures.len) in
    ap (drop c.args.leaves) (made ∙ ap (λ (n : ℕ). replicate {A = Option ℕ} n None) twice)
    ∙ drop_replicate c.args.leaves c.args.leaves None
