-- One clip more is written.
use Rattle.record_body.proofs.Common.{length, ap, arith, clip_bytes}
use Rattle.record_body.proofs.Parts.{part_next, take_here, drop_here}
use Rattle.record_body.proofs.writing.write_clips.Goals as goal

pub loop-i-preserved : goal.loop-i-preserved
loop-i-preserved c = part_next clip_bytes c.args.clips.now c.loop-i.i _ c.loop-i.at _ c.loop-i.out c.write_clip.new.out
    c.index-clips-i.result (take_here _ _ _ c.loop-i-test.true c.index-clips-i.is)
    (drop_here _ _ _ c.loop-i-test.true c.index-clips-i.is) c.loop-i.invariant c.write_clip.ensures
    (omega (arith, c.clip_len.ensures)) (omega (arith, c.clip_len.ensures, ap length c.write_clip.ensures))
