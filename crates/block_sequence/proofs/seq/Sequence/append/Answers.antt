-- The goals of `append` that the search leaves open.
use Rattle.std.proofs.Common.{arith}
use Rattle.block_sequence.proofs.FlatRows.{length_few}
use Rattle.block_sequence.proofs.seq.Sequence.append.Goals as goal

pub appended_rows-requires-clause-all : goal.appended_rows-requires-clause-all
appended_rows-requires-clause-all c =
    let e = length_few c.args.self.now c.rows.ensures.none_empty in
    rw c.rows.ensures.value (omega (arith, e, c.rows.ensures.few))

pub appended_rows-requires-clause-others : goal.appended_rows-requires-clause-others
appended_rows-requires-clause-others c =
    let e = length_few c.args.other.now c.rows-2.ensures.none_empty in
    rw c.rows-2.ensures.value (omega (arith, e, c.rows-2.ensures.few))

pub appended_rows-requires-clause-within : goal.appended_rows-requires-clause-within
appended_rows-requires-clause-within c = rw c.rows-2.ensures.value c.requires.within

pub appended_rows-requires-clause-few : goal.appended_rows-requires-clause-few
appended_rows-requires-clause-few c = rw (c.rows.ensures.value, c.rows-2.ensures.value) c.requires.few

pub from_rows-requires-clause-full : goal.from_rows-requires-clause-full
from_rows-requires-clause-full c =
    rw (c.in_ok-rows.ensures, c.rows.ensures.value, c.rows-2.ensures.value) c.requires.full

pub from_rows-requires-clause-none_empty : goal.from_rows-requires-clause-none_empty
from_rows-requires-clause-none_empty c =
    rw (c.in_ok-rows.ensures, c.rows.ensures.value, c.rows-2.ensures.value) c.requires.none_empty

pub from_rows-requires-clause-few : goal.from_rows-requires-clause-few
from_rows-requires-clause-few c =
    rw (c.in_ok-rows.ensures, c.rows.ensures.value, c.rows-2.ensures.value) c.requires.few
