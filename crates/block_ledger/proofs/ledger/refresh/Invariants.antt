use Rattle.std.proofs.Common.{◌≡◌, ℕ, ◌<◌, ◌≤◌, None, length, map, get_or}
use Rattle.block_ledger.specs.Entries.{free_of}
use Rattle.block_ledger.proofs.ledger.refresh.Given as goal

abbrev pub invariant-loop-i : goal.invariant-loop-i
invariant-loop-i l = (length l.free ≡ length l.initial.free)
    × ((k : ℕ) → k < l.i → get_or l.free k None ≡ get_or (map free_of l.entries) k None)
    × ((k : ℕ) → length l.entries ≤ k → get_or l.free k None ≡ None)
