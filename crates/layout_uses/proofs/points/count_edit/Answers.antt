-- A point comes after the current one, and others go.
use Rattle.layout_uses.proofs.Common.{◌≡◌, sym, subst, ◌∙◌, ap, ℕ, ◌+◌, ◌-◌, take, drop, arith, points_of}
use Rattle.layout_uses.proofs.Common.{points_tracks, slice_get, Has, Some}
use Rattle.layout_uses.proofs.Histories.{became_edited, goes_rest, has_last, has_oldest, rest_is}
use Rattle.layout_uses.proofs.Stays.{keeps_edit}
use Rattle.layout_uses.proofs.points.count_edit.Goals as goal

pub use_point-requires-clause-kept : goal.use_point-requires-clause-kept
use_point-requires-clause-kept c =
    let h = c.args.history.now.history in
    let base = c.point.result.now in
    let here = subst (λ (n : ℕ). slice_get (points_of h) n ≡ Some base) c.cursor-cursor.ensures.cursor
    c.point.ensures in
    keeps_edit c.args.kept h base c.args.point.now h.cursor c.args.tally.now here c.requires.counted
    (c.requires.kept base here)

pub leave_points-requires-clause-all : goal.leave_points-requires-clause-all
leave_points-requires-clause-all c =
    let h = c.args.history.now.history in
    let n = c.cursor-cursor.result + 1 in
    subst (λ (k : ℕ). Has (points_tracks (drop n (take k (points_of h)))) c.use_point.new.self)
    (sym c.len-len.ensures.len)
    (subst (λ z. Has z c.use_point.new.self) (sym (rest_is h n))
    (has_last h c.cursor-cursor.ensures.whole c.args.point.now n c.args.tally.now c.use_point.new.self
    c.use_point.ensures c.requires.counted))

pub leave_points-requires-2-clause-all : goal.leave_points-requires-2-clause-all
leave_points-requires-2-clause-all c =
    let h = c.args.history.now.history in
    let n = c.cursor-cursor.result + 1 in
    let went = goes_rest h n _ c.use_point.new.self c.leave_points.new.tally c.len-len.ensures.len
    c.leave_points.ensures in
    let whole = c.depth-depth.ensures.whole in
    has_oldest h c.cursor-cursor.ensures.whole c.args.point.now n c.args.tally.now c.use_point.new.self
    c.use_point.ensures c.leave_points.new.tally went c.saturating_sub.result
    (omega (arith, c.saturating_sub.ensures, whole.current, whole.few, c.depth-depth.ensures.depth)) c.requires.counted

pub returns : goal.returns
returns c tag =
    let h = c.args.history.now.history in
    let n = c.cursor-cursor.result + 1 in
    let went = goes_rest h n _ c.use_point.new.self c.leave_points.new.tally c.len-len.ensures.len
    c.leave_points.ensures in
    let d = c.depth-depth.ensures in
    let at : n ≡ h.cursor + 1 = ap (λ (k : ℕ). k + 1) c.cursor-cursor.ensures.cursor in
    let away : c.saturating_sub.result ≡ h.cursor + 1 + 1 - h.depth =
    c.saturating_sub.ensures ∙ (λ i. c.cursor-cursor.ensures.cursor i + 1 + 1 - c.depth-depth.ensures.depth i) in
    became_edited h c.cursor-cursor.ensures.whole c.args.point.now n c.args.tally.now c.use_point.new.self
    c.use_point.ensures c.leave_points.new.tally went c.saturating_sub.result
    (omega (arith, c.saturating_sub.ensures, d.whole.current, d.whole.few, d.depth)) c.leave_points-2.new.tally tag
    c.leave_points-2.ensures at away
