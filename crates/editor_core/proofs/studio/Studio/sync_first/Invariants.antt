-- The files so far.
use Rattle.editor_core.proofs.Common.{◌≡◌, ℕ, List, length, core_of, Syncing}
use Rattle.editor_core.proofs.studio.Studio.sync_first.Given as goal

abbrev pub invariant-loop-i : goal.invariant-loop-i
invariant-loop-i g l =
    (ids : List ℕ) × (length ids ≡ l.i) × Syncing g.S.Store (core_of l.fn.self) ids l.from (core_of l.self)
