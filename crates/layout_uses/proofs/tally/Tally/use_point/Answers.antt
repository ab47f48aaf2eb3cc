-- One track more is used.
use Rattle.layout_uses.proofs.Common.{◌≡◌, subst, ℕ, ◌+◌, ◌-◌, drop, arith, Comes}
use Rattle.layout_uses.proofs.Onward.{came_here, there_here, few_here}
use Rattle.layout_uses.proofs.Stays.{keeps_here}
use Rattle.layout_uses.proofs.tally.Tally.use_point.Goals as goal

pub use_like-requires-clause-kept : goal.use_like-requires-clause-kept
use_like-requires-clause-kept c =
    let next : c.loop-i.i ≡ c.loop-i.i - 1 + 1 = omega (arith, c.loop-i-test.true) in
    let came = subst (λ (n : ℕ). Comes (drop n c.args.point.now) c.args.self.now c.loop-i.self) next
    c.loop-i.invariant in
    λ old found. keeps_here c.args.kept c.args.base.now c.args.point.now (c.loop-i.i - 1) c.track_at-track.result.now
    c.track_at-track.ensures c.args.self.now c.loop-i.self came old found c.requires.kept

pub use_like-requires-clause-there : goal.use_like-requires-clause-there
use_like-requires-clause-there c =
    let next : c.loop-i.i ≡ c.loop-i.i - 1 + 1 = omega (arith, c.loop-i-test.true) in
    there_here c.args.point.now (c.loop-i.i - 1) _ c.track_at-track.ensures c.args.self.now c.loop-i.self
    c.requires.there
    (subst (λ (n : ℕ). Comes (drop n c.args.point.now) c.args.self.now c.loop-i.self) next c.loop-i.invariant)

pub use_like-requires-clause-few : goal.use_like-requires-clause-few
use_like-requires-clause-few c =
    let next : c.loop-i.i ≡ c.loop-i.i - 1 + 1 = omega (arith, c.loop-i-test.true) in
    few_here c.args.point.now (c.loop-i.i - 1) _ c.track_at-track.ensures c.args.self.now c.loop-i.self c.requires.few
    (subst (λ (n : ℕ). Comes (drop n c.args.point.now) c.args.self.now c.loop-i.self) next c.loop-i.invariant)

pub loop-i-preserved : goal.loop-i-preserved
loop-i-preserved c =
    let next : c.loop-i.i ≡ c.loop-i.i - 1 + 1 = omega (arith, c.loop-i-test.true) in
    came_here c.args.point.now (c.loop-i.i - 1) _ c.track_at-track.ensures c.args.self.now c.loop-i.self
    c.use_like.new.self
    (subst (λ (n : ℕ). Comes (drop n c.args.point.now) c.args.self.now c.loop-i.self) next c.loop-i.invariant)
    c.use_like.ensures
