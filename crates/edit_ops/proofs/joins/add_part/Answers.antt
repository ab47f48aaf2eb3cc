-- Blocks that touch the last clip are of it.
use Rattle.edit_ops.proofs.Common.{◌≡◌, ◌++◌, List, sym, ap, subst, ◌∙◌, arith, BlockRef, AllHalfFull, IsHalfFull}
use Rattle.edit_ops.proofs.Common.{Clip, clip_end}
use Rattle.pcm_base.specs.Blocks.{NoneEmpty, block_lens, blocks_len}
use Rattle.edit_ops.specs.Joins.{joined_clips, part_blocks, part_clip}
use Rattle.edit_ops.proofs.TouchingClips.{half_full_last, touch_next}
use Rattle.edit_ops.proofs.WindowBlocks.{NoneEmpty-append, len_append}
use Rattle.edit_ops.proofs.joins.add_part.Goals as goal

pub begin_part-requires-clause-half_full : goal.begin_part-requires-clause-half_full
begin_part-requires-clause-half_full c =
    let m = c.args.planner.block_size in
    let j = c.args.joining in
    subst (AllHalfFull m) (sym c.in_ok-clips.ensures)
    (half_full_last m j.start j.clips.items j.blocks c.requires.joining.clips c.requires.joining.half_full)

pub append-requires-clause-full : goal.append-requires-clause-full
append-requires-clause-full c = (c.args.planner.block_size, c.may_touch.ensures c.if-not-may_touch.false)

pub append-requires-clause-none_empty : goal.append-requires-clause-none_empty
append-requires-clause-none_empty c =
    NoneEmpty-append c.args.joining.blocks (part_blocks c.args.part) c.requires.joining.none_empty c.requires.part.none_empty

pub append-requires-clause-few : goal.append-requires-clause-few
append-requires-clause-few c =
    let here = c.requires.joining in
    let there = c.requires.part in
    omega (
      arith,
      len_append c.args.joining.blocks (part_blocks c.args.part),
      here.end,
      c.if-part-joining.false,
      there.size,
      there.few,
    )

pub returns : goal.returns
returns c =
    let m = c.args.planner.block_size in
    let j = c.args.joining in
    let p = c.args.part in
    let bs = part_blocks p in
    let here = c.requires.joining in
    let there = c.requires.part in
    let open_clip : Clip = record { start = j.start; blocks = j.blocks } in
    let e = c.in_ok-blocks.ensures in
    let touch : clip_end open_clip ≡ p.start = omega (arith, here.end, c.if-part-joining.false) in
    let H : List BlockRef → Type 0 = λ xs. IsHalfFull m (block_lens xs) in
    record {
      joining = record {
        end = omega (arith, here.end, ap blocks_len e, len_append j.blocks bs, there.size);
        few = omega (arith, here.end, touch, there.few);
        none_empty = subst NoneEmpty (sym e) (NoneEmpty-append j.blocks bs here.none_empty there.none_empty);
        half_full = subst H (sym e) (c.may_touch.ensures c.if-not-may_touch.false);
        clips = here.clips;
      };
      clips = λ es. ap (λ (xs : List BlockRef). j.clips.items ++ joined_clips (record { start = j.start; blocks = xs }) es) e
          ∙ touch_next j.clips.items open_clip (part_clip p) es touch;
    }
