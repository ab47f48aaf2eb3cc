-- What is left to do gives the rest: of the tracks, of the new blocks, of the layouts and of their numbers.
use Rattle.editor_core.proofs.Common.{◌≡◌, ◌+◌, ◌≤◌, ◌++◌, length, map, take, drop, into_iter_items, Track, HasNumbers}
use Rattle.editor_core.proofs.Common.{run_of, AreLayouts, laid_from, made_by}
use Rattle.std.specs.Vec.Iter.{into_iter_len}
use Rattle.editor_core.proofs.laying.planned_run.Given as goal

abbrev pub invariant-loop-i : goal.invariant-loop-i
invariant-loop-i l = record {
  len : into_iter_len l.left ≡ length (into_iter_items l.left);
  ids : map (λ (t : Track). t.id) l.point ≡ map (λ (t : Track). t.id) (take l.i l.project);
  tracks : laid_from l.id l.fn.plans l.next.layout l.project ≡ l.point
      ++ laid_from l.id (into_iter_items l.left) l.number (drop l.i l.project);
  makes : l.makes.items ++ made_by (into_iter_items l.left) ≡ made_by l.fn.plans;
  layouts : AreLayouts (into_iter_items l.left) → AreLayouts l.fn.plans;
  count : l.number + length (into_iter_items l.left) ≡ l.next.layout + length l.fn.plans;
  fits : length (into_iter_items l.left) ≤ length (run_of l.id (drop l.i l.project));
  clip : l.clip ≡ l.fn.clip;
  numbers : HasNumbers l.project l.next.layout l.point l.number;
  least : l.next.layout ≤ l.number;
  most : l.number ≤ l.next.layout + l.i;
}
