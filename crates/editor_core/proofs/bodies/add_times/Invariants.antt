-- The records so far.
use Rattle.editor_core.proofs.Common.{ℕ, List, ◌++◌, replicate, AreWaiting}
use Rattle.editor_core.proofs.bodies.add_times.Given as goal

abbrev pub invariant-rows : goal.invariant-rows
invariant-rows l = (bodies : List (List ℕ)) → AreWaiting l.fn.rows.items bodies
    → AreWaiting l.rows.items (bodies ++ replicate l.i l.body)
