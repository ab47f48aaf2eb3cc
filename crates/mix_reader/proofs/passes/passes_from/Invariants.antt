-- The passes over the tracks after are put.
use Rattle.mix_reader.proofs.Common.{◌≡◌, ◌≤◌, length, drop, AreRestsOf}
use Rattle.mix_reader.proofs.passes.passes_from.Given as goal

abbrev pub invariant-rows : goal.invariant-rows
invariant-rows l = record {
  within : l.i ≤ length l.point;
  size : length l.out ≡ 64;
  rests : AreRestsOf l.from (drop l.i l.point) (drop l.i l.out);
}

abbrev pub decreases-rows : goal.decreases-rows
decreases-rows l = l.i
