-- One point more is counted.
use Rattle.layout_uses.proofs.Common.{◌≡◌, subst, ℕ, ◌+◌, ◌-◌, drop, arith, points_of, points_tracks, Comes}
use Rattle.layout_uses.proofs.{Histories.point_came, Histories.point_few, Histories.point_there, Onward.came_roomy}
use Rattle.layout_uses.proofs.points.count_points.Goals as goal

pub use_point-requires-clause-there : goal.use_point-requires-clause-there
use_point-requires-clause-there c =
    let ps = points_of c.args.history.now.history in
    let next : c.loop-i.i ≡ c.loop-i.i - 1 + 1 = omega (arith, c.loop-i-test.true) in
    let was = subst (λ (n : ℕ). Comes (points_tracks (drop n ps)) c.args.tally.now c.loop-i.tally) next
    c.loop-i.invariant in
    let roomy = came_roomy _ c.args.tally.now c.loop-i.tally c.reserve.new.self was c.reserve.ensures.uses
    c.reserve.ensures.ledger c.reserve.ensures.room in
    point_there ps (c.loop-i.i - 1) _ c.point-point.ensures c.args.tally.now c.reserve.new.self roomy c.requires.there

pub use_point-requires-clause-few : goal.use_point-requires-clause-few
use_point-requires-clause-few c =
    let ps = points_of c.args.history.now.history in
    let next : c.loop-i.i ≡ c.loop-i.i - 1 + 1 = omega (arith, c.loop-i-test.true) in
    let was = subst (λ (n : ℕ). Comes (points_tracks (drop n ps)) c.args.tally.now c.loop-i.tally) next
    c.loop-i.invariant in
    let roomy = came_roomy _ c.args.tally.now c.loop-i.tally c.reserve.new.self was c.reserve.ensures.uses
    c.reserve.ensures.ledger c.reserve.ensures.room in
    point_few ps (c.loop-i.i - 1) _ c.point-point.ensures c.args.tally.now c.reserve.new.self roomy c.requires.few

pub loop-i-preserved : goal.loop-i-preserved
loop-i-preserved c =
    let ps = points_of c.args.history.now.history in
    let next : c.loop-i.i ≡ c.loop-i.i - 1 + 1 = omega (arith, c.loop-i-test.true) in
    let was = subst (λ (n : ℕ). Comes (points_tracks (drop n ps)) c.args.tally.now c.loop-i.tally) next
    c.loop-i.invariant in
    let roomy = came_roomy _ c.args.tally.now c.loop-i.tally c.reserve.new.self was c.reserve.ensures.uses
    c.reserve.ensures.ledger c.reserve.ensures.room in
    point_came ps
    (c.loop-i.i - 1) _ c.point-point.ensures c.args.tally.now c.reserve.new.self roomy c.use_point.new.self
    c.use_point.ensures
