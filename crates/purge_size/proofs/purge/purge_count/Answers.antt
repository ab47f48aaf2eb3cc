-- A point that fits, or does not.
use Rattle.std.proofs.Common.{◌≡◌, sym, subst, ap, ◌∙◌, true, false, ℕ, ◌+◌, ◌-◌, drop, min, arith}
use Rattle.pcm_base.specs.History.{points_of}
use Rattle.layout_uses.specs.Layouts.{points_tracks}
use Rattle.purge_size.specs.{Fits.HasTracks, Sizes.IsPurgeTo}
use Rattle.purge_size.proofs.{Purging.point_taken, Purging.purge_here, Purging.small_point, Taking.same_tracks}
use Rattle.purge_size.proofs.purge.purge_count.Goals as goal

pub take_point-requires : goal.take_point-requires
take_point-requires c =
    small_point c.args.history.now.history (c.loop-i.i - 1) _ c.point.ensures c.requires.small

pub returns-then-not-branch : goal.returns-then-not-branch
returns-then-not-branch c =
    let h = c.args.history.now.history in
    let next : c.loop-i.i ≡ c.loop-i.i - 1 + 1 = omega (arith, c.loop-i-test.true) in
    let was = subst (λ (n : ℕ). HasTracks (points_tracks (drop n (points_of h))) c.loop-i.fitting) next
    c.loop-i.invariant.0 in
    let least : min h.cursor (c.loop-i.i - 1 + 1) ≡ c.min.result =
    sym (c.min.ensures ∙ ap (λ (n : ℕ). min n (c.loop-i.i - 1 + 1)) c.cursor-cursor.ensures.cursor) in
    subst (IsPurgeTo h c.args.most) least
    (purge_here h c.requires.numbered (c.loop-i.i - 1) _ c.point.ensures c.loop-i.fitting c.take_point.new.self was
    c.args.most c.loop-i.invariant.1 (same_tracks _ false _ _ _ c.if-not-branch.true c.in_ok-take_point.ensures))

pub loop-i-preserved : goal.loop-i-preserved
loop-i-preserved c =
    let h = c.args.history.now.history in
    let next : c.loop-i.i ≡ c.loop-i.i - 1 + 1 = omega (arith, c.loop-i-test.true) in
    let was = subst (λ (n : ℕ). HasTracks (points_tracks (drop n (points_of h))) c.loop-i.fitting) next
    c.loop-i.invariant.0 in
    let takes = same_tracks _ true _ _ _ c.if-not-branch.false c.in_ok-take_point.ensures in (
      point_taken h c.requires.numbered
          (c.loop-i.i - 1) _ c.point.ensures c.loop-i.fitting c.take_point.new.self was takes,
      takes.most ∙ c.loop-i.invariant.1,
    )
