-- The clips so far have no more bytes than all of them, which are at most 24 a sample.
use Rattle.record_body.proofs.Common.{arith, clip_bytes}
use Rattle.record_body.proofs.Parts.{clips_few, parts_left, drop_here}
use Rattle.record_body.proofs.writing.clips_len.Goals as goal

pub overflow_add-len : goal.overflow_add-len
overflow_add-len c =
    let left = parts_left clip_bytes c.args.clips.now c.loop-i.i c.index-clips-i.result
    (drop_here _ _ _ c.loop-i-test.true c.index-clips-i.is) in
    let few = clips_few 0 0 c.args.clips.now (omega arith) c.requires.apart in
    omega (arith, left, few, c.requires.few, c.clip_len-len.ensures, c.loop-i.invariant)

pub returns-clause-few : goal.returns-clause-few
returns-clause-few c = search (arith, c.requires.apart, c.requires.few, c.loop-i.invariant, clips_few)
