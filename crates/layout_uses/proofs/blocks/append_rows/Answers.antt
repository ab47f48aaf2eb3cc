-- One row more.
use Rattle.layout_uses.proofs.Common.{refl, ap, ◌∙◌, ◌++◌, ◌-◌, List, BlockRef, ids_of, length, slice_get_read}
use Rattle.std.proofs.lemmas.List.{take_all}
use Rattle.block_sequence.specs.Rows.{flat, from_to}
use Rattle.layout_uses.proofs.Parts.{part_init, part_rows}
use Rattle.layout_uses.proofs.blocks.append_rows.Goals as goal

pub loop-row-init : goal.loop-row-init
loop-row-init c = part_init c.args.from c.args.to c.args.ids.now.items

pub loop-row-preserved : goal.loop-row-preserved
loop-row-preserved c =
    let r = c.row-item.result in
    let skip = c.loop-row.skip in
    let end = c.loop-row.end in
    let here = slice_get_read c.args.rows.now _ c.loop-row.row-index r refl c.loop-row-test.true c.row-item.is in
    let same = c.as_slice-blocks.ensures.value in
    part_rows c.args.rows.now c.loop-row.row-index r here c.args.from c.args.to skip end
    c.saturating_sub-skip.result c.saturating_sub-end.result c.args.ids.now.items c.loop-row.ids.items
    c.append_row.new.ids.items c.loop-row.invariant
    (c.in_ok-append_row.ensures
    ∙ ap (λ (z : List BlockRef). c.loop-row.ids.items ++ ids_of (from_to skip end z)) same)
    (c.saturating_sub-skip.ensures ∙ ap (λ (z : List BlockRef). skip - length z) same)
    (c.saturating_sub-end.ensures ∙ ap (λ (z : List BlockRef). end - length z) same)

pub returns : goal.returns
returns c =
    c.loop-row.invariant.ids
    ∙ ap (λ (rs : List (List BlockRef)). c.args.ids.now.items ++ ids_of (from_to c.args.from c.args.to (flat rs)))
    (take_all c.loop-row.row-index c.args.rows.now c.loop-row-test.false)
