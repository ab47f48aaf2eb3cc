-- What was heard of a pin is the answer.
use Rattle.editor_core.proofs.Common.{◌∙◌, refl, sym, ap, subst, List, length, Ok, arith, after_err, ReadPin, Frame}
use Rattle.editor_core.proofs.Common.{core_of, Took, quietly, silent, view_front, wants}
use Rattle.editor_views.proofs.PinRefusals.{len_refused, read_refused}
use Rattle.editor_views.proofs.{PinReads.read_as_many}
use Rattle.pcm_base.specs.declared.answer.Reply.TheVariants as reply
use Rattle.editor_core.proofs.studio.Studio.read_reply.Goals as goal

pub returns : goal.returns
returns g c =
    let s = core_of c.args.self.now in
    let n = length c.as_mut_slice.result.now in
    let new = core_of c.read_pin.new.self in
    let seen = c.in_ok-read.ensures.seen in
    let path = sym (c.new.ensures ∙ c.truncate.ensures.items
    ∙ view_front c.in_ok-read.read c.in_ok-frames.frames.len c.read_pin.new.out _ seen.count
    (omega (arith, c.read_pin.auto.out, c.as_mut_slice.ensures.len, ap length c.as_mut_slice.ensures.value))) in
    subst (λ (xs : List Frame). Took g.S.Store s
    (quietly (ReadPin c.args.pin c.args.from c.args.count) (Ok (reply.Frames xs))) new) path
    (read_as_many g.S.Store s c.args.pin c.args.from c.args.count c.in_ok-pin_len.field-0 n
    (omega (
      arith,
      c.frames_left-most.ensures,
      c.in_ok-frames.ensures.len,
      c.as_mut_slice.ensures.len,
      ap length c.as_mut_slice.ensures.value,
    ))
    c.in_ok-pin_len.ensures.took _ new seen.looks.took)

pub returns-in_err-pin_len : goal.returns-in_err-pin_len
returns-in_err-pin_len g c =
    let s = core_of c.args.self.now in
    let call = ReadPin c.args.pin c.args.from c.args.count in
    after_err (λ r. Took g.S.Store s (quietly call r) s) _ c.from_residual.result c.from_residual.ensures.1
    (len_refused g.S.Store s c.args.pin c.args.from c.args.count c.in_err-pin_len.field-0.0 s
    c.in_err-pin_len.ensures.took)

pub returns-in_err-frames : goal.returns-in_err-frames
returns-in_err-frames g c =
    let s = core_of c.args.self.now in
    let call = ReadPin c.args.pin c.args.from c.args.count in
    after_err (λ r. Took g.S.Store s (quietly call r) s) _ c.from_residual-in_err-frames.result
    c.from_residual-in_err-frames.ensures.1
    (wants g.S.Store s call silent c.requires (g.met.S.Store.may_fewer s.store) tt refl 0 (λ held. (0, (refl, refl))))

pub returns-in_err-read : goal.returns-in_err-read
returns-in_err-read g c =
    let s = core_of c.args.self.now in
    let call = ReadPin c.args.pin c.args.from c.args.count in
    let new = core_of c.read_pin.new.self in
    after_err (λ r. Took g.S.Store s (quietly call r) new) _ c.from_residual-in_err-read.result
    c.from_residual-in_err-read.ensures.1
    (read_refused g.S.Store s c.args.pin c.args.from c.args.count
    (length c.as_mut_slice.result.now) c.in_err-read.field-0.0 new c.in_err-read.ensures.seen.looks.took)
