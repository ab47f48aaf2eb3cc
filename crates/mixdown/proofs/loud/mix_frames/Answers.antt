-- One frame more is stored.
use Rattle.mixdown.proofs.Common.{◌+◌, arith, take_more_set, map-range_with_len_more, frame_at, laid}
use Rattle.mixdown.proofs.loud.mix_frames.Goals as goal

pub loop-k-preserved : goal.loop-k-preserved
loop-k-preserved c =
    let f = frame_at (laid c.args.len c.args.stretches.now c.args.gains.now c.args.sides.now) in
    let more = map-range_with_len_more f c.args.at c.loop-k.k (c.args.at + c.loop-k.k) (omega arith) in
    let stored = take_more_set c.loop-k.out c.loop-k.k c.mix_frame.result (omega arith) in
    let here = c.mix_frame.ensures in
    cc
