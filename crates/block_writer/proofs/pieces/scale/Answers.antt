-- One sample more.
use Rattle.std.proofs.Common.{ℤ, pos, map, get_or, sym, ap, ◌∙◌, arith, to_z, of_z, w16, w64}
use Rattle.std.proofs.{lemmas.Int.ints, lemmas.List.take_all}
use Rattle.pcm_base.specs.Arithmetic.{clamped, scaled}
use Rattle.block_writer.proofs.ReadLaws.{scale_step}
use Rattle.block_writer.proofs.pieces.scale.Goals as goal

pub loop-i-preserved : goal.loop-i-preserved
loop-i-preserved c =
    let both = scale_step c.args.gain c.loop-i.i c.args.out.now c.loop-i.out
    (to_z w16 (of_z w16 c.clamped.result)) c.clamped.result (to_z w64 (of_z w64 c.scaled.result)) c.scaled.result
    (to_z w16 (of_z w16 (get_or c.loop-i.out c.loop-i.i (pos 0))))
    (omega arith) c.loop-i.auto.out c.loop-i.invariant.front c.loop-i.invariant.rest
    (omega (arith, ints)) c.clamped.ensures (omega (arith, ints)) c.scaled.ensures (omega (arith, ints)) in
    record { front = both.0; rest = both.1 }

pub returns : goal.returns
returns c =
    let f : ℤ → ℤ = λ s. clamped (scaled c.args.gain s) in
    sym (take_all c.loop-i.i c.loop-i.out (omega arith)) ∙ c.loop-i.invariant.front
    ∙ ap (map f) (take_all c.loop-i.i c.args.out.now (omega arith))
