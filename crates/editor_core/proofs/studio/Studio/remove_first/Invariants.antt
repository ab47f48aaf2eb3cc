-- The files so far.
use Rattle.editor_core.proofs.Common.{◌≡◌, ℕ, List, length, core_of}
use Rattle.editor_cleanup.proofs.RemovePass.{Removing}
use Rattle.editor_core.proofs.studio.Studio.remove_first.Given as goal

abbrev pub invariant-loop-count : goal.invariant-loop-count
invariant-loop-count g l =
    (ids : List ℕ) × (length ids ≡ l.count) × Removing g.S.Store (core_of l.fn.self) ids l.from (core_of l.self)
