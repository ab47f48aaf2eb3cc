-- What was seen is the answer, and without memory nothing is.
use Rattle.editor_core.proofs.Common.{◌∙◌, refl, sym, ap, subst, List, length, Ok, arith, after_err, Line, Cell}
use Rattle.editor_core.proofs.Common.{core_of, Took, quietly, silent, wants, view_front}
use Rattle.pcm_base.specs.declared.answer.Reply.TheVariants as reply
use Rattle.pcm_base.specs.declared.command.Command.TheVariants as command
use Rattle.editor_core.proofs.studio.Studio.show_reply.Goals as goal

pub returns-in_err-cells : goal.returns-in_err-cells
returns-in_err-cells g c =
    let s = core_of c.args.self.now in
    let call = Line (command.Show c.args.track c.args.from c.args.to) in
    after_err (λ r. Took g.S.Store s (quietly call r) s) _ c.from_residual.result c.from_residual.ensures.1
    (wants g.S.Store s call silent c.requires (g.met.S.Store.may_fewer s.store) tt refl 0 (λ held. (0, (refl, refl))))

pub returns : goal.returns
returns g c =
    let s = core_of c.args.self.now in
    let call = Line (command.Show c.args.track c.args.from c.args.to) in
    subst (λ (xs : List Cell). Took g.S.Store s (quietly call (Ok (reply.Cells xs))) (core_of c.show.new.self))
    (sym (c.new.ensures ∙ c.truncate.ensures.items ∙ view_front c.in_ok-count.count c.in_ok-cells.cells.len
    c.show.new.out _ c.in_ok-count.ensures.seen.count (omega (
      arith,
      c.show.auto.out,
      c.as_mut_slice.ensures.len,
      ap length c.as_mut_slice.ensures.value,
    )))) c.in_ok-count.ensures.seen.looks.took

pub returns-in_err-count : goal.returns-in_err-count
returns-in_err-count g c =
    let s = core_of c.args.self.now in
    let new = core_of c.show.new.self in
    let call = Line (command.Show c.args.track c.args.from c.args.to) in
    after_err (λ r. Took g.S.Store s (quietly call r) new) _ c.from_residual-in_err-count.result
    c.from_residual-in_err-count.ensures.1 c.in_err-count.ensures.seen.looks.took
