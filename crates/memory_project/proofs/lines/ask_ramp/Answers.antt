-- A ramp is one call of the studio.
use Rattle.std.proofs.Common.{◌≡◌, ◌∙◌, ℕ, sym, subst, to_z, of_z, w16, arith}
use Rattle.std.proofs.lemmas.Int.{ints}
use Rattle.pcm_base.specs.{declared.answer.Reply.TheVariants.Done, declared.command.Call.TheVariants.Line}
use Rattle.pcm_base.specs.{declared.command.Command.Command, declared.command.Command.TheVariants.Ramp}
use Rattle.editor_core.specs.Core.{core_of}
use Rattle.editor_state.specs.Took.{Took, quietly, as_reply}
use Rattle.memory_project.proofs.LineLemmas.{told_ends, told_valid}
use Rattle.memory_project.proofs.lines.ask_ramp.Goals as goal

-- (the samples may come back from the machine's numbers)
pub returns : goal.returns
returns g c =
    let p = c.in-Ramp in
    let told = as_reply (λ (n : ℕ). Done) c.ramp.result in
    let start = to_z w16 (of_z w16 p.start) in
    let step = to_z w16 (of_z w16 p.step) in
    let first : start ≡ p.start = omega (arith, ints) in
    let each : step ≡ p.step = omega (arith, ints) in
    let line : Ramp p.track p.at p.count start step ≡ c.args.command.now =
    (λ i. Ramp p.track p.at p.count (first i) (each i)) ∙ sym p.is in record {
      told = told;
      took = subst (λ (k : Command). Took g.S.Store (core_of c.args.studio.now) (quietly (Line k) told)
          (core_of c.ramp.new.self)) line c.ramp.ensures.took;
      ends = told_ends (λ (n : ℕ). Done) c.ramp.result c.without_value.result c.without_value.ensures;
      valid = λ held. told_valid (λ (n : ℕ). Done) c.ramp.result (c.ramp.ensures.valid held);
    }
