-- What the loop of `cut_each` keeps.
use Rattle.edit_ops.proofs.Common.{◌≡◌, ◌+◌, ◌*◌, ◌≤◌, take, run_start_of, removed}
use Rattle.edit_ops.specs.Runs as runs
use Rattle.edit_ops.proofs.runs.cut_each.Given as goal

abbrev pub invariant-loop-t : goal.invariant-loop-t
invariant-loop-t l = record {
  cuts : runs.AreCuts (removed l.removing l.from l.to) (run_start_of l.planner)
      (take l.t-index (runs.layouts l.run)) l.plans.items;
  same_id : l.id ≡ runs.next_of l.planner.next l.plans.items;
  few : l.id ≤ l.planner.next + 8 * l.t-index;
}
