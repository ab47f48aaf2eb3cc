-- The ids so far.
use Rattle.layout_uses.proofs.Common.{take, layout_blocks}
use Rattle.layout_uses.proofs.Parts.{IsPart}
use Rattle.layout_uses.proofs.blocks.append_clips.Given as goal

abbrev pub invariant-loop-clip : goal.invariant-loop-clip
invariant-loop-clip l =
    IsPart l.from l.to (layout_blocks (take l.clip-index l.clips)) l.fn.ids.items l.ids.items l.skip l.end
