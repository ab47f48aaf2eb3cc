-- One file after another.
use Rattle.editor_core.proofs.Common.{◌≡◌, inl, inr, refl, sym, subst, length, ℕ, [], ◌∷◌, ◌++◌, IsSome, Some, Option}
use Rattle.editor_core.proofs.Common.{arith, core_of, long}
use Rattle.editor_cleanup.proofs.{RemovePass.next_here, RemovePass.none_here, RemovePass.removes_all}
use Rattle.editor_cleanup.proofs.{RemovePass.removes_fail, RemovePass.removing_more, RemovePass.removing_none}
use Rattle.editor_core.proofs.studio.Studio.remove_first.Goals as goal
use Rattle.row_ledger.specs.Lists.{counts_of}

is_some : (o : Option ℕ) → o ≡ Some 0 → IsSome o
is_some o e = subst IsSome (sym e) refl

pub loop-count-init : goal.loop-count-init
loop-count-init g c =
    let s = core_of c.args.self.now in
    ([], refl, removing_none g.S.Store s (g.met.S.Store.may_fewer s.store))

pub returns-in_default : goal.returns-in_default
returns-in_default g c =
    let s = core_of c.args.self.now in
    let is = c.loop-count.invariant in
    removes_all g.S.Store s tt c.args.most c.loop-count.count is.0 c.loop-count.from (core_of c.loop-count.self) is.2
    is.1 (omega (arith, c.loop-count-test.true))
    (inr (none_here g.S.Store s is.0 c.loop-count.from (core_of c.loop-count.self) is.2 c.in_default.ensures.none))

pub remove_unnamed-requires : goal.remove_unnamed-requires
remove_unnamed-requires g c =
    let is = c.loop-count.invariant in
    let next = next_here g.S.Store (core_of c.args.self.now) is.0 c.loop-count.from c.in-Some.id
    (core_of c.loop-count.self) is.2 c.in-Some.ensures.found in record {
      low = c.requires.low c.in-Some.id (is_some (counts_of c.args.self.now.tally.ledger c.in-Some.id) next.free);
      high = c.requires.high c.in-Some.id (is_some (counts_of c.args.self.now.tally.ledger c.in-Some.id) next.free);
    }

pub returns-in-Err : goal.returns-in-Err
returns-in-Err g c =
    let s = core_of c.args.self.now in
    let mid = core_of c.loop-count.self in
    let is = c.loop-count.invariant in
    let next = next_here g.S.Store s is.0 c.loop-count.from c.in-Some.id mid is.2 c.in-Some.ensures.found in
    removes_fail g.S.Store s is.0 c.loop-count.from c.in-Some.id mid (core_of c.remove_unnamed.new.self) is.2 next
    c.in-Err.fault c.args.most c.loop-count.count c.in-Err.ensures is.1 (omega (arith, c.loop-count-test.true))

pub overflow_add-from : goal.overflow_add-from
overflow_add-from g c =
    let is = c.loop-count.invariant in
    let next = next_here g.S.Store (core_of c.args.self.now) is.0 c.loop-count.from c.in-Some.id
    (core_of c.loop-count.self) is.2 c.in-Some.ensures.found in
    let most = c.requires.high c.in-Some.id (is_some (counts_of c.args.self.now.tally.ledger c.in-Some.id) next.free) in
    omega (arith, most)

pub loop-count-preserved : goal.loop-count-preserved
loop-count-preserved g c =
    let s = core_of c.args.self.now in
    let mid = core_of c.loop-count.self in
    let is = c.loop-count.invariant in
    let id = c.in-Some.id in
    let next = next_here g.S.Store s is.0 c.loop-count.from id mid is.2 c.in-Some.ensures.found in (
      is.0 ++ id ∷ [],
      omega (arith, long is.0 id, is.1),
      removing_more g.S.Store s is.0 c.loop-count.from id mid (core_of c.remove_unnamed.new.self) is.2 next
          c.in_default-remove_unnamed.field-0 c.in_default-remove_unnamed.ensures,
    )

pub returns : goal.returns
returns g c =
    let is = c.loop-count.invariant in
    let all : length is.0 ≡ c.args.most = omega (arith, is.1, c.loop-count-test.false, c.loop-count.auto.count-end) in
    removes_all g.S.Store (core_of c.args.self.now) tt c.args.most c.args.most is.0 c.loop-count.from
    (core_of c.loop-count.self) is.2 all (omega arith) (inl all)
