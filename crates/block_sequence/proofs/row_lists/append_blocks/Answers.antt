-- The goals of `append_blocks` that the search leaves open.
use Rattle.std.proofs.Common.{ℕ, ◌+◌, ◌++◌, List, length, drop, refl, sym, ap, ap₂, ◌∙◌}
use Rattle.pcm_base.specs.declared.block.BlockRef.{BlockRef}
use Rattle.block_sequence.specs.Rows.{flat, from_to}
use Rattle.block_sequence.proofs.{FlatRows.flat_next, FromTo.part_more}
use Rattle.block_sequence.proofs.row_lists.append_blocks.Goals as goal

pub loop-row-preserved : goal.loop-row-preserved
loop-row-preserved c =
    let rows = c.args.rows.now in
    let i = c.loop-row.row-index in
    let skip = c.loop-row.skip in
    let end = c.loop-row.end in
    let out = c.loop-row.out.items in
    let row = c.row-item.result in
    let blocks = c.as_slice-blocks.result.now in
    let rest = flat (drop (i + 1) rows) in
    let d = flat_next rows i row c.loop-row-test.true
    ∙ ap (λ (r : List BlockRef). r ++ rest) (sym (c.as_slice-blocks.ensures.value ∙ c.row-item.is)) in
    ap (λ (os : List BlockRef). os ++ from_to c.saturating_sub-skip.result c.saturating_sub-end.result rest)
    c.in_ok-append_row.ensures
    ∙ ap₂ (λ (a b : ℕ). (out ++ from_to skip end blocks) ++ from_to a b rest)
    c.saturating_sub-skip.ensures c.saturating_sub-end.ensures
    ∙ part_more skip end (length blocks) out blocks rest refl
    ∙ ap (λ (bs : List BlockRef). out ++ from_to skip end bs) (sym d)
    ∙ c.loop-row.invariant
