-- What the loop of `lay` keeps.
use Rattle.std.proofs.Common.{length}
use Rattle.row_ledger.specs.Rows.{HasSameRoom}
use Rattle.row_ledger.proofs.Comings.{Laying}
use Rattle.row_ledger.proofs.laying.lay.Given as goal

abbrev pub invariant-loop-rest : goal.invariant-loop-rest
invariant-loop-rest l = record {
  part : Laying l.fn.table l.table l.fn.out.items l.out.items l.rest l.ids;
  room : HasSameRoom l.fn.table.ledger l.table.ledger;
}

abbrev pub decreases-loop-rest : goal.decreases-loop-rest
decreases-loop-rest l = length l.rest
