-- What is asked lies within what there is.
use Rattle.std.proofs.Common.{◌≡◌, ℕ, ℤ, arith, ap, ap₂, sym, ◌∙◌, length, to_z, of_z, w16}
use Rattle.std.proofs.{lemmas.Int.ints, lemmas.List.nil_from_length}
use Rattle.pcm_base.specs.Pieces.{stretch}
use Rattle.block_store.proofs.StretchLaws.{stretch_part}
use Rattle.block_writer.specs.Bringing.{brought, brought_count, ramp_samples}
use Rattle.block_writer.proofs.ReadLaws.{ramp_stretch}
use Rattle.block_writer.proofs.given.Given.put.Goals as goal

pub fill_samples-requires : goal.fill_samples-requires
fill_samples-requires c = let e = ap brought_count c.in-Samples.is in omega (arith, e)

pub overflow_cast-from : goal.overflow_cast-from
overflow_cast-from c = let e = ap brought_count c.in-Ramp.is in grind (arith, e)

pub fill_ramp-requires : goal.fill_ramp-requires
fill_ramp-requires c = let e = ap brought_count c.in-Ramp.is in omega (arith, e)

pub returns-in-Samples : goal.returns-in-Samples
returns-in-Samples c =
    let e = ap brought_count c.in-Samples.is in
    c.fill_samples.ensures
    ∙ sym (stretch_part c.in-Samples.samples.now c.args.from (length c.args.out.now) (omega (arith, e)))
    ∙ ap (λ (f : ℕ → ℤ). stretch f c.args.from (length c.args.out.now)) (ap brought (sym c.in-Samples.is))

pub returns-in-Ramp : goal.returns-in-Ramp
returns-in-Ramp c =
    let start : ℤ = to_z w16 (of_z w16 c.in-Ramp.start) in
    let step : ℤ = to_z w16 (of_z w16 c.in-Ramp.step) in
    let same_start : start ≡ c.in-Ramp.start = omega (arith, ints) in
    let same_step : step ≡ c.in-Ramp.step = omega (arith, ints) in
    c.fill_ramp.ensures ∙ ap₂ (λ (a b : ℤ). ramp_samples a b c.args.from (length c.args.out.now)) same_start same_step
    ∙ ramp_stretch c.in-Ramp.start c.in-Ramp.step c.in-Ramp._count c.args.from (length c.args.out.now)
    ∙ ap (λ (f : ℕ → ℤ). stretch f c.args.from (length c.args.out.now)) (ap brought (sym c.in-Ramp.is))

pub returns-in-Nothing : goal.returns-in-Nothing
returns-in-Nothing c =
    let e = ap brought_count c.in-Nothing.is in
    let none : length c.args.out.now ≡ 0 = omega (arith, e) in
    nil_from_length c.args.out.now none ∙ ap (stretch (brought c.args.self.now) c.args.from) (sym none)
