-- What was received so far was taken, up to the first refusal.
use Rattle.std.proofs.Common.{◌≡◌, ◌*◌, ◌≤◌, ℤ, false, List, length, is_some}
use Rattle.pcm_base.specs.Recordings.{numbered}
use Rattle.record_ring.specs.Ends.{received, SameOut}
use Rattle.recorder_threads.specs.Drained.{Takes, taker_state, taken_by}
use Rattle.recorder_threads.proofs.track.drain.Given as goal

abbrev pub invariant-loop : goal.invariant-loop
invariant-loop g l = record {
  chunks : List (List ℤ);
  so_far : received l.output ≡ numbered 0 chunks;
  takes : Takes (g.T.PieceTaker.pieces l.fn.taker) (taker_state g.T.PieceTaker l.taker) (taken_by l.tally) chunks;
  goes : (first : g.row.T.Denot) → g.T.PieceTaker.follows first false l.fn.taker
      → g.T.PieceTaker.follows first (is_some (g.T.PieceTaker.refused l.taker)) l.taker;
  ring : SameOut l.fn.output l.output;
  wide : length l.batch ≡ 64;
  small : l.tally.samples ≤ 256 * length chunks;
}
