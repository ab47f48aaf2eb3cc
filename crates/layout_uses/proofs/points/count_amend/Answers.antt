-- A point comes in the place of the current one, and those after it go.
use Rattle.layout_uses.proofs.Common.{sym, subst, ℕ, take, drop, points_of, points_tracks, Goes, Has}
use Rattle.layout_uses.proofs.Histories.{became_amended, has_last, rest_is}
use Rattle.layout_uses.proofs.points.count_amend.Goals as goal

pub leave_points-requires-clause-all : goal.leave_points-requires-clause-all
leave_points-requires-clause-all c =
    let h = c.args.history.now.history in
    subst (λ (n : ℕ). Has (points_tracks (drop c.cursor-cursor.result (take n (points_of h)))) c.use_point.new.self)
    (sym c.len.ensures.len)
    (subst (λ z. Has z c.use_point.new.self) (sym (rest_is h c.cursor-cursor.result))
    (has_last h c.cursor-cursor.ensures.whole c.args.point.now c.cursor-cursor.result c.args.tally.now c.use_point.new.self
    c.use_point.ensures c.requires.counted))

pub returns : goal.returns
returns c =
    let h = c.args.history.now.history in
    let went = subst (λ z. Goes z c.use_point.new.self c.leave_points.new.tally) (rest_is h c.cursor-cursor.result)
    (subst (λ (n : ℕ). Goes (points_tracks (drop c.cursor-cursor.result (take n (points_of h)))) c.use_point.new.self
    c.leave_points.new.tally) c.len.ensures.len c.leave_points.ensures) in
    became_amended h c.cursor-cursor.ensures.whole c.args.point.now c.cursor-cursor.result c.args.tally.now c.use_point.new.self
    c.use_point.ensures c.leave_points.new.tally went c.cursor-cursor.ensures.cursor
