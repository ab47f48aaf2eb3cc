use Rattle.std.proofs.Common.{◌≡◌, ◌≤◌, take, vec_capacity}
use Rattle.std.specs.List.{filter}
use Rattle.block_ledger.specs.Entries.{is_kept}
use Rattle.block_ledger.proofs.ledger.kept_entries.Given as goal

abbrev pub invariant-loop-entry : goal.invariant-loop-entry
invariant-loop-entry l =
    (l.kept.items ≡ filter is_kept (take l.entry-index l.entries)) × (l.places ≤ vec_capacity l.kept)
