-- The first samples are under the gain, and the others as they were.
use Rattle.std.proofs.Common.{◌≡◌, take, drop, map}
use Rattle.pcm_base.specs.Arithmetic.{clamped, scaled}
use Rattle.block_writer.proofs.pieces.scale.Given as goal

abbrev pub invariant-loop-i : goal.invariant-loop-i
invariant-loop-i l = record {
  front : take l.i l.out ≡ map (λ s. clamped (scaled l.gain s)) (take l.i l.fn.out);
  rest : drop l.i l.out ≡ drop l.i l.fn.out;
}
