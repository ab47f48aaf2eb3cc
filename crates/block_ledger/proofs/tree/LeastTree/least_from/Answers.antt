-- Two nodes are seen at each level.
use Rattle.std.proofs.Common.{◌≡◌, ℕ, ◌+◌, ◌-◌, ◌/◌, ◌<◌, Option, Some, None, List, drop, sym, ◌∙◌, ap, subst, arith}
use Rattle.std.proofs.lemmas.List.{get_or_read}
use Rattle.std.specs.Prelude.{IfSome, Contains}
use Rattle.block_ledger.specs.Tree.{lesser, node}
use Rattle.block_ledger.proofs.Covers.{Covers, covers_leaves, covers_above, seen_is_there, seen_is_least}
use Rattle.block_ledger.proofs.tree.LeastTree.least_from.Goals as goal

pub loop-from-init : goal.loop-from-init
loop-from-init c = covers_leaves c.self.inside.leaves c.args.leaf c.self.inside.nodes.items

pub loop-from-preserved : goal.loop-from-preserved
loop-from-preserved c =
    let leaves = c.self.inside.leaves in
    let nodes = c.self.inside.nodes.items in
    let from = c.loop-from.from in
    let to = c.loop-from.to in
    let lt : from < to = omega (arith, c.loop-from-test.true) in
    let first : c.index.result.now ≡ node nodes from =
    get_or_read nodes from c.index.result.now (omega (arith, lt, c.loop-from.invariant.most, c.self.invariant.size))
    c.index.ensures None in
    let last : c.index-in-loop-from.result.now ≡ node nodes (to - 1) =
    get_or_read nodes (to - 1) c.index-in-loop-from.result.now
    (omega (arith, lt, c.loop-from.invariant.most, c.self.invariant.size)) c.index-in-loop-from.ensures None in
    let is : c.lesser-least.result ≡ lesser c.loop-from.least (lesser (node nodes from) (node nodes (to - 1))) =
    c.lesser-least.ensures ∙ ap (lesser c.loop-from.least) (c.lesser.ensures
    ∙ ap (λ (o : Option ℕ). lesser o c.index-in-loop-from.result.now) first
    ∙ ap (λ (o : Option ℕ). lesser (node nodes from) o) last) in
    let half : c.div_ceil-from.result ≡ (from + 1) / 2 = omega (arith, c.div_ceil-from.ensures) in
    subst (λ (o : Option ℕ). Covers leaves c.args.leaf nodes o c.div_ceil-from.result (to / 2)) (sym is)
    (subst (λ (n : ℕ). Covers leaves c.args.leaf nodes
    (lesser c.loop-from.least (lesser (node nodes from) (node nodes (to - 1)))) n (to / 2)) (sym half)
    (covers_above leaves c.args.leaf nodes c.loop-from.least from to c.self.invariant c.loop-from.invariant lt))

pub returns-clause-found : goal.returns-clause-found
returns-clause-found c =
    subst (λ (l : List (Option ℕ)). IfSome c.loop-from.least (λ id. Contains (drop c.args.leaf l) (Some id)))
    c.self.view_is
    (seen_is_there c.self.inside.leaves c.args.leaf c.self.inside.nodes.items c.loop-from.least c.loop-from.from
    c.loop-from.to c.self.invariant.size c.loop-from.invariant)

pub returns-clause-least : goal.returns-clause-least
returns-clause-least c = λ id there.
    seen_is_least c.self.inside.leaves c.args.leaf c.self.inside.nodes.items c.loop-from.least c.loop-from.from
    c.loop-from.to c.self.invariant.size c.loop-from.invariant (omega (arith, c.loop-from-test.false)) id
    (subst (λ (l : List (Option ℕ)). Contains (drop c.args.leaf l) (Some id)) (sym c.self.view_is) there)
