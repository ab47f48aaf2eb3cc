-- What is kept has no more samples than all had.
use Rattle.record_body.proofs.Common.{◌-◌, ap, arith, blocks_len}
use Rattle.block_sequence.specs.Rows.{flat}
use Rattle.record_body.proofs.Tails.{take_len}
use Rattle.record_body.proofs.tails_reading.read_fresh.Goals as goal

pub overflow_add-before : goal.overflow_add-before
overflow_add-before c =
    let rows = flat c.rows.result.now in
    let kept = take_len (c.count.result - c.u32_at-gone.result) rows in
    omega (arith, c.len_to.ensures, kept, ap blocks_len c.rows.ensures.value, c.requires.near)

pub read_rows-requires-clause-near : goal.read_rows-requires-clause-near
read_rows-requires-clause-near c =
    let rows = flat c.rows.result.now in
    let kept = take_len (c.count.result - c.u32_at-gone.result) rows in
    omega (arith, c.len_to.ensures, kept, ap blocks_len c.rows.ensures.value, c.requires.near)
