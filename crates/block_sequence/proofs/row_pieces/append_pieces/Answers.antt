-- The goals of `append_pieces` that the search leaves open.
use Rattle.std.proofs.Common.{ℕ, ◌+◌, ◌++◌, List, drop, sym, ap, ap₂, ◌∙◌, ℤ}
use Rattle.pcm_base.specs.declared.block.BlockRef.{BlockRef}
use Rattle.pcm_base.specs.{Blocks.block_samples, Pieces.all_samples}
use Rattle.block_sequence.specs.Rows.{flat, from_to}
use Rattle.block_sequence.proofs.{FlatRows.flat_next, FlatRows.block_samples-append, FromTo.part_more, Whole.length-blocks}
use Rattle.block_sequence.proofs.row_pieces.append_pieces.Goals as goal

pub loop-row-preserved : goal.loop-row-preserved
loop-row-preserved c =
    let rows = c.args.rows.now in
    let i = c.loop-row.row-index in
    let skip = c.loop-row.skip in
    let end = c.loop-row.end in
    let row = c.row-item.result in
    let more = flat (drop (i + 1) rows) in
    record {
      valid = c.in_ok-append_row.ensures.valid;
      samples = λ src.
          let out = all_samples src c.loop-row.out.items in
          let xs = block_samples src row in
          let rest = block_samples src more in
          let d = ap (block_samples src) (flat_next rows i row c.loop-row-test.true
          ∙ ap (λ (r : List BlockRef). r ++ more) (sym c.row-item.is))
          ∙ block_samples-append src row more in
          ap (λ (os : List ℤ). os ++ from_to c.saturating_sub-skip.result c.saturating_sub-end.result rest)
          (c.in_ok-append_row.ensures.samples src)
          ∙ ap₂ (λ (a b : ℕ). (out ++ from_to skip end xs) ++ from_to a b rest)
          c.saturating_sub-skip.ensures c.saturating_sub-end.ensures
          ∙ part_more skip end c.len-size.result out xs rest (length-blocks src row ∙ sym c.len-size.ensures)
          ∙ ap (λ (ys : List ℤ). out ++ from_to skip end ys) (sym d)
          ∙ c.loop-row.invariant.samples src;
    }
