-- The ids are there, and are few.
use Rattle.std.proofs.Common.{◌≡◌, ◌+◌, ◌^◌, ◌<◌, ℕ, List, refl, sym, subst}
use Rattle.block_ledger.specs.Counts.{occurrences, times}
use Rattle.row_ledger.specs.Rows.{AreThere, Held}
use Rattle.row_ledger.specs.Lists.{counts_of, ids_or_none, list_like, list_of}
use Rattle.row_ledger.proofs.LikeLists.{like_none}
use Rattle.row_examples.proofs.Bounded.{all_there, list_few, list_bound}
use Rattle.row_examples.proofs.tested.Tested.hold_list.Goals as goal

pub hold_list-requires-clause-there : goal.hold_list-requires-clause-there
hold_list-requires-clause-there c =
    let s = c.self.inside.ledger in
    let ids = c.args.ids.now in
    let same : list_like s c.args.base 0 0 ids ≡ ids =
    like_none (ids_or_none (list_of s c.args.base)) 0 0 ids refl refl in
    subst (AreThere (counts_of s)) (sym same) (all_there (counts_of s) ids (c.has_all.ensures c.if-not-has_all.false))

pub hold_list-requires-clause-few : goal.hold_list-requires-clause-few
hold_list-requires-clause-few c =
    let s = c.self.inside.ledger in
    let ids = c.args.ids.now in
    let same : list_like s c.args.base 0 0 ids ≡ ids =
    like_none (ids_or_none (list_of s c.args.base)) 0 0 ids refl refl in
    subst (λ (ys : List ℕ). (id : ℕ) → occurrences (counts_of s id) + times id ys < 2 ^ 128) (sym same)
    (list_few c.self.inside.most c.in_ok-most.most (counts_of s) ids c.self.invariant c.in_ok-most.ensures.sum
    c.in_ok-most.ensures.few)

pub invariant_of-self-2 : goal.invariant_of-self-2
invariant_of-self-2 c =
    let s = c.self.inside.ledger in
    let ids = c.args.ids.now in
    let same : list_like s c.args.base 0 0 ids ≡ ids =
    like_none (ids_or_none (list_of s c.args.base)) 0 0 ids refl refl in
    list_bound c.self.inside.most c.in_ok-most.most (counts_of s) (counts_of c.hold_list.new.self) ids c.self.invariant
    c.in_ok-most.ensures.sum
    (subst (Held (counts_of s) (counts_of c.hold_list.new.self)) same c.in_ok-hold_list.ensures.ok.held)
