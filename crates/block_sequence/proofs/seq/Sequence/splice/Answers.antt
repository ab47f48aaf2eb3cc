-- The goals of `splice` that the search leaves open.
use Rattle.std.proofs.Common.{arith}
use Rattle.block_sequence.proofs.{FlatRows.length_few, Relaid.middle_few}
use Rattle.block_sequence.proofs.seq.Sequence.splice.Goals as goal

pub spliced_rows-requires-clause-all : goal.spliced_rows-requires-clause-all
spliced_rows-requires-clause-all c =
    let e = length_few c.args.self.now c.rows.ensures.none_empty in
    rw c.rows.ensures.value (omega (arith, e, c.rows.ensures.few))

pub spliced_rows-requires-clause-middle : goal.spliced_rows-requires-clause-middle
spliced_rows-requires-clause-middle c =
    let e = middle_few c.args.from c.args.to c.args.middle.now c.args.self.now c.requires.none_empty in
    omega (arith, e, c.requires.few)

pub from_rows-requires-clause-full : goal.from_rows-requires-clause-full
from_rows-requires-clause-full c = rw (c.in_ok-rows.ensures, c.rows.ensures.value) c.requires.full

pub from_rows-requires-clause-none_empty : goal.from_rows-requires-clause-none_empty
from_rows-requires-clause-none_empty c = rw (c.in_ok-rows.ensures, c.rows.ensures.value) c.requires.none_empty

pub from_rows-requires-clause-few : goal.from_rows-requires-clause-few
from_rows-requires-clause-few c = rw (c.in_ok-rows.ensures, c.rows.ensures.value) c.requires.few
