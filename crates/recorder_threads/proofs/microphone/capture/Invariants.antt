-- Whole blocks were read, and their chunks sent.
use Rattle.std.proofs.Common.{◌≡◌, ℕ, ◌*◌, List, length}
use Rattle.edit_ports.specs.Told.{Open}
use Rattle.record_ring.specs.Ends.{sent, SameIn}
use Rattle.recorder_threads.specs.Captured.{Reads}
use Rattle.recorder_threads.proofs.microphone.capture.Given as goal

-- how far the reading has come
abbrev pub invariant-loop-number : goal.invariant-loop-number
invariant-loop-number g l = record {
  done : List ℕ;
  whole : length done ≡ 512 * l.number;
  reads : Reads (g.M.Source.left l.fn.mic) (g.M.Source.left l.mic) (sent l.input) done;
  goes : (first : g.row.M.Denot) → g.M.Source.follows first Open l.fn.mic → g.M.Source.follows first Open l.mic;
  ring : SameIn l.fn.input l.input;
  count : g.M.Source.fault_count l.mic ≡ g.M.Source.fault_count l.fn.mic;
  wide : length l.bytes ≡ 512;
}
