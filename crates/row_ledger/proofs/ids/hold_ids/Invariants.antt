-- What the loop of `hold_ids` keeps.
use Rattle.std.proofs.Common.{take}
use Rattle.block_ledger.specs.Entries.{count_of}
use Rattle.row_ledger.specs.Rows.{HasSameRoom, Held}
use Rattle.row_ledger.proofs.ids.hold_ids.Given as goal

abbrev pub invariant-loop-id : goal.invariant-loop-id
invariant-loop-id l = record {
  held : Held (count_of l.fn.ledger) (count_of l.ledger) (take l.id-index l.ids);
  room : HasSameRoom l.fn.ledger l.ledger;
}
