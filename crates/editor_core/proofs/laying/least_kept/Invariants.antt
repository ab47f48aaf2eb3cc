-- What no plan that was passed keeps less of.
use Rattle.editor_core.proofs.Common.{drop}
use Rattle.clip_track.specs.declared.kept.Kept.{Kept}
use Rattle.editor_tracks.specs.RunEdits.{AllKeep, IsWithin}
use Rattle.editor_core.proofs.laying.least_kept.Given as goal

abbrev pub invariant-loop-plan : goal.invariant-loop-plan
invariant-loop-plan l =
    (j : Kept) → IsWithin j l.kept → AllKeep j (drop l.plan-index l.plans) → AllKeep j l.plans
