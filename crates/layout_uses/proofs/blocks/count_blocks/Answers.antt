-- One clip more.
use Rattle.layout_uses.proofs.Common.{refl, arith, slice_get_read}
use Rattle.layout_uses.proofs.Parts.{count_on}
use Rattle.layout_uses.proofs.blocks.count_blocks.Goals as goal

pub loop-clip-preserved : goal.loop-clip-preserved
loop-clip-preserved c =
    let clip = c.clip-item.result in
    let here = slice_get_read c.args.clips.now _ c.loop-clip.clip-index clip refl c.loop-clip-test.true
    c.clip-item.is in
    omega (
      arith,
      count_on c.args.clips.now c.loop-clip.clip-index clip here,
      c.loop-clip.invariant,
      c.count.ensures.value,
      c.in-Some.ensures,
    )
