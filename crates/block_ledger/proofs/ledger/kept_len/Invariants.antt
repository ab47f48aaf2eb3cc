use Rattle.std.proofs.Common.{◌≡◌, length, take}
use Rattle.std.specs.List.{filter}
use Rattle.block_ledger.specs.Entries.{is_kept}
use Rattle.block_ledger.proofs.ledger.kept_len.Given as goal

abbrev pub invariant-loop-entry : goal.invariant-loop-entry
invariant-loop-entry l = l.len ≡ length (filter is_kept (take l.entry-index l.entries))
