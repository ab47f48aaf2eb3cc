-- The goals of `spliced_rows` that the search leaves open.
use Rattle.std.proofs.Common.{arith, append_assoc}
use Rattle.std.proofs.lemmas.List.{take_rest}
use Rattle.block_sequence.proofs.{FlatRows.flat-append, Relaid.relaid, Relaid.relaid_few}
use Rattle.block_sequence.proofs.row_splices.spliced_rows.Goals as goal

pub lay_rows-requires : goal.lay_rows-requires
lay_rows-requires c =
    let span = c.span_of-span in
    let e = relaid_few c.args.rows.now span.result.start.row span.result.start.at span.result.end.row
    span.result.end.at c.args.from c.args.to c.args.middle.now span.ensures.start span.ensures.end
    span.ensures.before span.ensures.after in
    rw c.in_ok-blocks.ensures (omega (arith, e, c.requires.few))

pub returns : goal.returns
returns c =
    let span = c.span_of-span in
    let rows = c.args.rows.now in
    let e = relaid rows span.result.start.row span.result.start.at span.result.end.row
    span.result.end.at c.args.from c.args.to c.args.middle.now span.ensures.start span.ensures.end
    span.ensures.before span.ensures.after in
    rw (
      c.in_ok-share_rows-2.ensures,
      flat-append,
      c.in_ok-lay_rows.ensures,
      c.in_ok-share_rows.ensures,
      c.new-out.ensures.items,
      take_rest rows span.result.end.row,
      append_assoc,
      c.in_ok-blocks.ensures,
    ) e
