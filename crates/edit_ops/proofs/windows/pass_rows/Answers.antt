-- The blocks of a row follow those of the rows before it.
use Rattle.edit_ops.proofs.Common.{◌+◌, ◌<◌, List, length, drop, ap, sym, ◌∙◌, arith, length-append, BlockRef}
use Rattle.pcm_base.specs.Blocks.{blocks_len}
use Rattle.block_sequence.specs.Rows.{flat}
use Rattle.block_sequence.proofs.FlatRows.{edge_back, flat_count, flat_len, flat_more}
use Rattle.edit_ops.proofs.WindowBlocks.{edge_room, len_append, row_passed}
use Rattle.edit_ops.proofs.windows.pass_rows.Goals as goal

pub overflow_add-count : goal.overflow_add-count
overflow_add-count c =
    let rows = c.args.rows.now in
    let at = c.rows.at in
    let row : List BlockRef = c.index-rows-at-in-rows-3.result in
    omega (
      arith,
      edge_room rows at c.rows.count c.rows.invariant.edge,
      flat_count rows at row (omega (arith, c.rows-test.true)),
      ap length c.as_slice.ensures.value,
      ap length c.index-rows-at-in-rows-3.is,
      c.requires,
    )

pub rows-preserved : goal.rows-preserved
rows-preserved c =
    let rows = c.args.rows.now in
    let at = c.rows.at in
    let inv = c.rows.invariant in
    let within : at < length rows = omega (arith, c.rows-test.true) in
    let row : List BlockRef = c.index-rows-at-in-rows-3.result in
    let same : List BlockRef = c.index-rows-at-in-rows-2.result in
    let tested : List BlockRef = c.index-rows-at.result in
    record {
      edge = record {
        within = omega (arith, within);
        same_at = omega (
          arith,
          flat_more rows at row within,
          inv.edge.same_at,
          ap length c.as_slice.ensures.value,
          ap length c.index-rows-at-in-rows-3.is,
        );
      };
      size = omega (
        arith,
        inv.size,
        flat_len rows at same within,
        ap blocks_len c.index-rows-at-in-rows-2.is,
        c.len-size.ensures,
      );
      past = omega (
        arith,
        inv.past,
        c.is_passed.ensures c.if-is_passed.true,
        flat_len rows at tested within,
        ap blocks_len c.index-rows-at.is,
        flat_len rows at same within,
        ap blocks_len c.index-rows-at-in-rows-2.is,
        c.len-size.ensures,
      );
    }

pub overflow_add-result : goal.overflow_add-result
overflow_add-result c =
    let rows = c.args.rows.now in
    let at = c.rows.at in
    let row = c.blocks_at.result.now in
    omega (
      arith,
      edge_room rows at c.rows.count c.rows.invariant.edge,
      ap length c.blocks_at.ensures,
      length-append row (flat (drop (at + 1) rows)),
      c.pass_blocks-passed.ensures.within,
      c.requires,
    )

pub returns-clause-within : goal.returns-clause-within
returns-clause-within c =
    let rows = c.args.rows.now in
    let at = c.rows.at in
    let row = c.blocks_at.result.now in
    let rest = flat (drop (at + 1) rows) in
    omega (
      arith,
      edge_room rows at c.rows.count c.rows.invariant.edge,
      ap length c.blocks_at.ensures,
      length-append row rest,
      c.pass_blocks-passed.ensures.within,
    )

pub returns-clause-size : goal.returns-clause-size
returns-clause-size c =
    let rows = c.args.rows.now in
    let at = c.rows.at in
    let count = c.rows.count in
    let row = c.blocks_at.result.now in
    let rest = flat (drop (at + 1) rows) in
    let passed = c.pass_blocks-passed in
    let here = edge_back rows at count c.rows.invariant.edge in
    omega (
      arith,
      row_passed count passed.result.count (flat rows) row rest (sym here ∙ c.blocks_at.ensures) passed.ensures.within,
      passed.ensures.size,
      ap blocks_len c.blocks_at.ensures,
      len_append row rest,
      c.rows.invariant.size,
    )
