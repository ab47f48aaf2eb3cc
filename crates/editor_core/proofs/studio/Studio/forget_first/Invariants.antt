-- The blocks so far.
use Rattle.editor_core.proofs.Common.{◌≡◌, ℕ, List, length, core_of}
use Rattle.editor_cleanup.proofs.ForgetPass.{Forgetting}
use Rattle.editor_core.proofs.studio.Studio.forget_first.Given as goal

abbrev pub invariant-loop-i : goal.invariant-loop-i
invariant-loop-i g l =
    (ids : List ℕ) × (end : ℕ) × (length ids ≡ l.i) × Forgetting (core_of l.fn.self) ids end (core_of l.self)
