-- What is left after the calls so far.
use Rattle.memory_disk.proofs.Common.{◌≡◌, ℕ, List, take, Step, IsLeft, history_on, items_of}
use Rattle.memory_disk.proofs.image.leave_calls.Given as goal

abbrev pub invariant-loop-call : goal.invariant-loop-call
invariant-loop-call l = record {
  choice : l.draws.choice ≡ l.fn.draws.choice;
  left : (h : List Step) (start : ℕ) → IsLeft l.fn.draws.choice l.file h start (items_of l.fn.image) l.fn.draws.state
      → IsLeft l.fn.draws.choice l.file (history_on h l.row (take l.call-index l.calls)) start
      (items_of l.image) l.draws.state;
}
