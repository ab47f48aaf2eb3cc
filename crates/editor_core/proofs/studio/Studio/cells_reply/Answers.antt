-- Each line that changes cells of one track is a step by the call that is its own.
use Rattle.editor_core.proofs.Common.{◌≡◌, [], sym, ap, ◌∙◌, arith, ints, core_of}
use Rattle.std.proofs.Common.{to_z, of_z, w16}
use Rattle.pcm_base.specs.declared.command.Command.TheVariants as command
use Rattle.editor_core.proofs.Replies.{replied}
use Rattle.editor_core.proofs.studio.Studio.cells_reply.Goals as goal

pub returns-in-Delete : goal.returns-in-Delete
returns-in-Delete g c =
    replied g.S.Store (core_of c.args.self.now) (core_of c.edit_range.new.self) [] c.in-Delete.is
    c.done-in-Delete.ensures c.edit_range.ensures.took

pub returns-in-SplitDelete : goal.returns-in-SplitDelete
returns-in-SplitDelete g c =
    replied g.S.Store (core_of c.args.self.now) (core_of c.edit_range-in-SplitDelete.new.self) [] c.in-SplitDelete.is
    c.done-in-SplitDelete.ensures c.edit_range-in-SplitDelete.ensures.took

pub returns-in-Silence : goal.returns-in-Silence
returns-in-Silence g c =
    replied g.S.Store (core_of c.args.self.now) (core_of c.edit_range-in-Silence.new.self) [] c.in-Silence.is
    c.done-in-Silence.ensures c.edit_range-in-Silence.ensures.took

pub returns-in-Trim : goal.returns-in-Trim
returns-in-Trim g c =
    replied g.S.Store (core_of c.args.self.now) (core_of c.edit_range-in-Trim.new.self) [] c.in-Trim.is
    c.done-in-Trim.ensures c.edit_range-in-Trim.ensures.took

pub returns-in-Gain : goal.returns-in-Gain
returns-in-Gain g c =
    replied g.S.Store (core_of c.args.self.now) (core_of c.edit_range-in-Gain.new.self) [] c.in-Gain.is
    c.done-in-Gain.ensures c.edit_range-in-Gain.ensures.took

pub returns-in-Put : goal.returns-in-Put
returns-in-Put g c =
    let line = ap (command.Put c.in-Put.track c.in-Put.at) c.as_slice.ensures ∙ sym c.in-Put.is in
    replied g.S.Store (core_of c.args.self.now) (core_of c.put.new.self) [] (sym line) c.done.ensures c.put.ensures.took

-- (the samples may come back from the machine's numbers)
pub returns-in-Ramp : goal.returns-in-Ramp
returns-in-Ramp g c =
    let p = c.in-Ramp in
    let start = to_z w16 (of_z w16 p.start) in
    let step = to_z w16 (of_z w16 p.step) in
    let first : start ≡ p.start = omega (arith, ints) in
    let each : step ≡ p.step = omega (arith, ints) in
    let line : command.Ramp p.track p.at p.count start step ≡ c.args.command.now =
    (λ i. command.Ramp p.track p.at p.count (first i) (each i)) ∙ sym p.is in
    replied g.S.Store (core_of c.args.self.now) (core_of c.ramp.new.self) [] (sym line) c.done-in-Ramp.ensures
    c.ramp.ensures.took
