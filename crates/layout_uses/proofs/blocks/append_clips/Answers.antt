-- One clip more.
use Rattle.layout_uses.proofs.Common.{refl, ap, ◌∙◌, ◌++◌, ◌-◌, ℕ, List, BlockRef, Clip, ids_of, layout_blocks}
use Rattle.layout_uses.proofs.Common.{slice_get_read}
use Rattle.std.proofs.lemmas.List.{take_all}
use Rattle.block_sequence.specs.Rows.{from_to}
use Rattle.layout_uses.proofs.Parts.{part_clips, part_init}
use Rattle.layout_uses.proofs.blocks.append_clips.Goals as goal

pub loop-clip-init : goal.loop-clip-init
loop-clip-init c = part_init c.args.from c.args.to c.args.ids.now.items

pub loop-clip-preserved : goal.loop-clip-preserved
loop-clip-preserved c =
    let clip = c.clip-item.result in
    let skip = c.loop-clip.skip in
    let end = c.loop-clip.end in
    let here = slice_get_read c.args.clips.now _ c.loop-clip.clip-index clip refl c.loop-clip-test.true
    c.clip-item.is in
    part_clips c.args.clips.now c.loop-clip.clip-index clip here c.args.from c.args.to skip end
    c.saturating_sub-skip.result c.saturating_sub-end.result c.args.ids.now.items c.loop-clip.ids.items
    c.append_rows.new.ids.items c.loop-clip.invariant
    (c.in_ok-append_rows.ensures
    ∙ ap (λ (z : List BlockRef). c.loop-clip.ids.items ++ ids_of (from_to skip end z)) c.rows.ensures.value)
    (c.saturating_sub-skip.ensures ∙ ap (λ (n : ℕ). skip - n) c.count-size.ensures.value)
    (c.saturating_sub-end.ensures ∙ ap (λ (n : ℕ). end - n) c.count-size.ensures.value)

pub returns : goal.returns
returns c =
    c.loop-clip.invariant.ids
    ∙ ap (λ (cs : List Clip). c.args.ids.now.items ++ ids_of (from_to c.args.from c.args.to (layout_blocks cs)))
    (take_all c.loop-clip.clip-index c.args.clips.now c.loop-clip-test.false)
