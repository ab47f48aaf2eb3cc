-- What the loop of `paste_each` keeps.
use Rattle.edit_ops.proofs.Common.{◌≡◌, ◌+◌, ◌*◌, ◌≤◌, take, placed, run_start_of}
use Rattle.edit_ops.specs.Runs as runs
use Rattle.edit_ops.proofs.runs.paste_each.Given as goal

abbrev pub invariant-loop-i : goal.invariant-loop-i
invariant-loop-i l = record {
  pastes : runs.ArePastes (placed l.placing l.at) (run_start_of l.planner) (take l.i l.clip)
      (take l.i (runs.layouts l.run)) l.plans.items;
  same_id : l.id ≡ runs.next_of l.planner.next l.plans.items;
  few : l.id ≤ l.planner.next + 8 * l.i;
}
