-- The first chunks were taken, and none was refused.
use Rattle.std.proofs.Common.{length, ◌-◌, ◌≡◌, ℕ, ℤ, ◌+◌, ◌*◌, ◌≤◌, List, ◌++◌, take, None, is_some}
use Rattle.edit_ports.specs.Answers.{samples_of}
use Rattle.recorder_threads.specs.Drained.{Takes, taker_state, taken_by}
use Rattle.recorder_threads.proofs.track.take_chunks.Given as goal

abbrev pub invariant-chunks : goal.invariant-chunks
invariant-chunks g l = record {
  within : l.at ≤ length l.chunks;
  going : l.tally.refused ≡ None;
  unrefused : g.T.PieceTaker.refused l.taker ≡ None;
  takes : (start : List (List ℤ × ℕ)) (before : List (List ℤ)) →
      Takes start (taker_state g.T.PieceTaker l.fn.taker) (taken_by l.fn.tally) before →
      Takes start (taker_state g.T.PieceTaker l.taker) (taken_by l.tally) (before ++ take l.at (samples_of l.chunks));
  grows : l.tally.samples ≤ l.fn.tally.samples + 256 * l.at;
  goes : (first : g.row.T.Denot) →
      g.T.PieceTaker.follows first (is_some (g.T.PieceTaker.refused l.fn.taker)) l.fn.taker →
      g.T.PieceTaker.follows first (is_some (g.T.PieceTaker.refused l.taker)) l.taker;
}

abbrev pub decreases-chunks : goal.decreases-chunks
decreases-chunks g l = length l.chunks - l.at
