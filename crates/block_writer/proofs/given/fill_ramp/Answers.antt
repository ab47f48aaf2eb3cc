-- One sample more of the ramp.
use Rattle.std.proofs.Common.{◌≡◌, ℤ, length, sym, ap, ap₂, ◌∙◌, arith, to_z, of_z, w16, w64}
use Rattle.std.proofs.{lemmas.Int.ints, lemmas.List.take_all}
use Rattle.block_writer.specs.Bringing.{ramp_samples}
use Rattle.block_writer.proofs.ReadLaws.{ramp_step}
use Rattle.block_writer.proofs.given.fill_ramp.Goals as goal

pub loop-i-preserved : goal.loop-i-preserved
loop-i-preserved c =
    let start : ℤ = to_z w16 (of_z w16 c.args.start) in
    let step : ℤ = to_z w16 (of_z w16 c.args.step) in
    ramp_step c.loop-i.out start step c.args.from c.loop-i.i (to_z w16 (of_z w16 c.clamped.result)) c.clamped.result
    (to_z w64 (of_z w64 c.ramp_value.result)) c.ramp_value.result (omega arith) c.loop-i.invariant
    (omega (arith, ints)) c.clamped.ensures (omega (arith, ints)) c.ramp_value.ensures

pub returns : goal.returns
returns c =
    let start : ℤ = to_z w16 (of_z w16 c.args.start) in
    let step : ℤ = to_z w16 (of_z w16 c.args.step) in
    let e : c.loop-i.i ≡ length c.args.out.now = omega arith in
    let same_start : start ≡ c.args.start = omega (arith, ints) in
    let same_step : step ≡ c.args.step = omega (arith, ints) in
    sym (take_all c.loop-i.i c.loop-i.out (omega arith)) ∙ c.loop-i.invariant
    ∙ ap (ramp_samples start step c.args.from) e
    ∙ ap₂ (λ (a b : ℤ). ramp_samples a b c.args.from (length c.args.out.now)) same_start same_step
