use Rattle.std.proofs.Common.{◌≡◌, length, take}
use Rattle.std.specs.List.{filter}
use Rattle.block_ledger.specs.Entries.{is_named}
use Rattle.block_ledger.proofs.ledger.Ledger.named_len.Given as goal

abbrev pub invariant-loop-entry : goal.invariant-loop-entry
invariant-loop-entry l = l.named ≡ length (filter is_named (take l.entry-index l.entry-items))
