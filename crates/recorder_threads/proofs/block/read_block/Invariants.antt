-- The first bytes were read, and nothing failed.
use Rattle.std.proofs.Common.{◌≡◌, ◌≤◌, ◌-◌, take}
use Rattle.edit_ports.specs.Told.{Open, preceded}
use Rattle.recorder_threads.proofs.block.read_block.Given as goal

abbrev pub invariant-loop-len : goal.invariant-loop-len
invariant-loop-len g l = record {
  bound : l.len ≤ 512;
  goes : (first : g.row.M.Denot) → g.M.Source.follows first Open l.fn.mic → g.M.Source.follows first Open l.mic;
  read : g.M.Source.left l.fn.mic ≡ preceded (take l.len l.bytes) (g.M.Source.left l.mic);
  count : g.M.Source.fault_count l.mic ≡ g.M.Source.fault_count l.fn.mic;
}

abbrev pub decreases-loop-len : goal.decreases-loop-len
decreases-loop-len g l = 512 - l.len
