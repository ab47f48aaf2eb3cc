-- Lists of other lengths are not the same. One clip more is, and its blocks are known no longer.
use Rattle.record_body.proofs.Common.{◌≡◌, ◌-◌, length, sym, ◌∙◌, arith}
use Rattle.record_body.proofs.Commons.{clips_unlike}
use Rattle.record_body.proofs.KnownFronts.{clip_front, clips_past, known_at, less_past, same_past}
use Rattle.record_body.proofs.Parts.{drop_here}
use Rattle.record_body.proofs.changes.same_clips.Goals as goal

pub returns-then-old-new-clause-value : goal.returns-then-old-new-clause-value
returns-then-old-new-clause-value c = sym (clips_unlike c.args.old.now c.args.new.now c.if-old-new.true)

pub same_clip-requires : goal.same_clip-requires
same_clip-requires c =
    let us = drop_here c.args.old.now c.loop-i.i _ c.loop-i-test.true c.index-old-i.is in
    let vs =
    drop_here c.args.new.now c.loop-i.i _ (omega (arith, c.loop-i-test.true, c.if-old-new.false)) c.index-new-i.is in
    record { known = clip_front c.loop-i.left _ _ _ _ _ _ us vs c.loop-i.invariant.known }

pub loop-i-preserved : goal.loop-i-preserved
loop-i-preserved c =
    let us = drop_here c.args.old.now c.loop-i.i _ c.loop-i-test.true c.index-old-i.is in
    let vs =
    drop_here c.args.new.now c.loop-i.i _ (omega (arith, c.loop-i-test.true, c.if-old-new.false)) c.index-new-i.is in
    let same = sym c.same_clip.ensures ∙ c.if-not-same_clip.false in
    let left : c.loop-i.left - length c.index-old-i.result.blocks ≡ c.saturating_sub-left.result =
    omega (arith, c.saturating_sub-left.ensures, c.count.ensures.value) in
    record {
      same = same_past _ _ _ _ _ _ us vs same ∙ c.loop-i.invariant.same;
      known = known_at _ _ _ _ left (clips_past c.loop-i.left _ _ _ _ _ _ us vs same c.loop-i.invariant.known);
      less = omega (arith, left, less_past c.loop-i.left _ _ _ us, c.loop-i.invariant.less);
    }
