-- One block after another.
use Rattle.editor_core.proofs.Common.{◌≡◌, ◌+◌, [], ◌∷◌, ◌++◌, inl, refl, sym, subst, length, arith, core_of}
use Rattle.editor_core.proofs.Common.{first_none, long}
use Rattle.row_ledger.specs.Lists.{counts_of}
use Rattle.layout_uses.specs.Tallies.{Uses}
use Rattle.editor_cleanup.proofs.{FirstIds.none_from, ForgetPass.Forgetting, ForgetPass.forgets_all}
use Rattle.editor_cleanup.proofs.{ForgetPass.forgetting_more}
use Rattle.editor_core.proofs.SameUses.{same_uses}
use Rattle.editor_core.proofs.studio.Studio.forget_first.Goals as goal

pub returns-in_default : goal.returns-in_default
returns-in_default g c =
    let s = core_of c.args.self.now in
    let is = c.loop-i.invariant in
    let none = none_from s.counts (core_of c.loop-i.self).counts is.0 is.1 is.3.next is.3.forgets
    c.in_default.ensures.none in
    forgets_all s c.args.count is.0 is.1 (core_of c.loop-i.self) is.3
    (first_none s.counts c.args.count is.0 is.1 is.3.next (omega (arith, is.2, c.loop-i-test.true)) none)

pub loop-i-preserved : goal.loop-i-preserved
loop-i-preserved g c =
    let s = core_of c.args.self.now in
    let mid = core_of c.loop-i.self in
    let is = c.loop-i.invariant in
    let id = c.in-Some.id in
    let forgot = c.forget.ensures in
    let counts = counts_of c.forget.new.self in
    let tally = c.loop-i.self.tally in
    let uses = same_uses tally (record tally { ledger = c.forget.new.self }) (λ n. refl) forgot.lists forgot.singles in (
      is.0 ++ id ∷ [],
      id + 1,
      omega (arith, long is.0 id, is.2),
      subst (λ (u : Uses). Forgetting s (is.0 ++ id ∷ []) (id + 1) (record mid { counts = counts; uses = u })) (sym uses)
          (forgetting_more s is.0 is.1 id mid counts is.3 c.in-Some.ensures.found forgot.counts),
    )

pub returns : goal.returns
returns g c =
    let is = c.loop-i.invariant in
    let all : length is.0 ≡ c.args.count = omega (arith, is.2, c.loop-i-test.false, c.loop-i.auto.i-end) in
    forgets_all (core_of c.args.self.now) c.args.count is.0 is.1 (core_of c.loop-i.self) is.3
    (record { end = is.1; next = is.3.next; few = omega (arith, all); all = inl all })
