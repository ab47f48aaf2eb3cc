-- The goals of `from_rows` that the search leaves open.
use Rattle.std.proofs.Common.{arith}
use Rattle.block_sequence.specs.Rows.{flat}
use Rattle.block_sequence.proofs.FlatRows.{length_few}
use Rattle.block_sequence.proofs.seq.from_rows.Goals as goal

pub count_blocks-count-requires : goal.count_blocks-count-requires
count_blocks-count-requires c =
    let e = length_few (flat c.args.rows.items) c.requires.none_empty in
    rw c.as_slice.ensures.value (omega (arith, e, c.requires.few))
