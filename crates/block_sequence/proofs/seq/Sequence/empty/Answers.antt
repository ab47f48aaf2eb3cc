-- There are no rows.
use Rattle.std.proofs.Common.{ap, ◌∙◌, arith}
use Rattle.block_sequence.specs.Rows.{flat}
use Rattle.block_sequence.proofs.seq.Sequence.empty.Goals as goal

pub from_rows-requires-clause-full : goal.from_rows-requires-clause-full
from_rows-requires-clause-full c = rw c.new.ensures.items (0, tt)

pub from_rows-requires-clause-none_empty : goal.from_rows-requires-clause-none_empty
from_rows-requires-clause-none_empty c = rw c.new.ensures.items tt

pub from_rows-requires-clause-few : goal.from_rows-requires-clause-few
from_rows-requires-clause-few c = rw c.new.ensures.items (omega arith)

pub returns : goal.returns
returns c = c.from_rows.ensures ∙ ap flat c.new.ensures.items
