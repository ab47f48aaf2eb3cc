-- Full blocks and full ones are full.
use Rattle.edit_ops.proofs.Common.{◌++◌, sym}
use Rattle.edit_ops.specs.Joins.{part_blocks}
use Rattle.edit_ops.proofs.WindowBlocks.{full_append, half_from_full, part_length}
use Rattle.edit_ops.proofs.joins.may_touch.Goals as goal

pub returns-then-are_full : goal.returns-then-are_full
returns-then-are_full c t =
    let m = c.args.block_size in
    let front = c.args.front.now in
    let part = c.args.back in
    let back = part_blocks part in
    let h = c.requires.back in
    half_from_full m (front ++ back) c.requires.some (full_append m front back
    (c.are_full.ensures c.if-are_full.true front (sym c.count-many.ensures.value) (sym c.len.ensures.value) c.requires.front)
    (c.are_full-then-are_full.ensures t back (part_length part.from part.to part.blocks.now h.rising h.within) (sym h.size)
    h.half_full))
