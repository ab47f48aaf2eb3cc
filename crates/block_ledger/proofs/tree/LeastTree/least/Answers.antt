-- The root has the least of the leaves' ids.
use Rattle.std.proofs.Common.{◌≡◌, ℕ, ◌≤◌, Option, Some, None, List, sym, subst, arith}
use Rattle.std.proofs.lemmas.List.{get_or_read}
use Rattle.std.specs.Prelude.{IfSome, IsSomeAnd, Contains}
use Rattle.block_ledger.specs.Tree.{node}
use Rattle.block_ledger.proofs.Trees.{root_holds, root_least}
use Rattle.block_ledger.proofs.tree.LeastTree.least.Goals as goal

pub returns-clause-found : goal.returns-clause-found
returns-clause-found c =
    let nodes = c.self.inside.nodes.items in
    let some : 1 ≤ c.self.inside.leaves = omega (arith, c.if-self-eq0.false) in
    let root : c.index.result.now ≡ node nodes 1 =
    get_or_read nodes 1 c.index.result.now (omega (arith, c.self.invariant.size, some)) c.index.ensures None in
    subst (λ (l : List (Option ℕ)). IfSome c.index.result.now (λ id. Contains l (Some id))) c.self.view_is
    (root_holds c.self.inside.leaves nodes c.index.result.now c.self.invariant some root)

pub returns-clause-least : goal.returns-clause-least
returns-clause-least c = λ id there.
    let nodes = c.self.inside.nodes.items in
    let some : 1 ≤ c.self.inside.leaves = omega (arith, c.if-self-eq0.false) in
    let root : c.index.result.now ≡ node nodes 1 =
    get_or_read nodes 1 c.index.result.now (omega (arith, c.self.invariant.size, some)) c.index.ensures None in
    subst (λ (o : Option ℕ). IsSomeAnd o (λ y. y ≤ id)) (sym root)
    (root_least c.self.inside.leaves nodes id c.self.invariant
    (subst (λ (l : List (Option ℕ)). Contains l (Some id)) (sym c.self.view_is) there))
