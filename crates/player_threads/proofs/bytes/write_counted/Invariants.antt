-- The first bytes were written, and nothing failed.
use Rattle.std.proofs.Common.{length, ◌-◌, ◌≡◌, ◌≤◌, false, take}
use Rattle.edit_ports.specs.Told.{grown}
use Rattle.player_threads.proofs.bytes.write_counted.Given as goal

abbrev pub invariant-loop-count : goal.invariant-loop-count
invariant-loop-count g l = record {
  bound : l.count ≤ length l.bytes;
  written : g.O.Sink.written l.out ≡ grown (g.O.Sink.written l.fn.out) (take l.count l.bytes);
  goes : (first : g.row.O.Denot) → g.O.Sink.follows first false l.fn.out → g.O.Sink.follows first false l.out;
  kept : g.O.Sink.fault_count l.out ≡ g.O.Sink.fault_count l.fn.out;
}

abbrev pub decreases-loop-count : goal.decreases-loop-count
decreases-loop-count g l = length l.bytes - l.count
