-- Looking how long a pin is changes nothing.
use Rattle.editor_core.proofs.Common.{◌∙◌, sym, ap, subst, List, Err, Some, err_from_is_err_and, sources_of}
use Rattle.editor_core.proofs.Common.{IsUndamaged, IsNoWant, Pin, Took, quietly, as_reply, core_of, LacksPin, MayFind}
use Rattle.std.specs.Prelude.{IfErr}
use Rattle.pcm_base.specs.declared.command.Call.TheVariants.{PinLen}
use Rattle.editor_views.proofs.MixViews.{len_stopped, len_lacks, measured}
use Rattle.pcm_base.specs.declared.answer.Reply.TheVariants as reply
use Rattle.editor_core.proofs.studio.Studio.pin_len.Goals as goal

pub returns-in-Some-clause-took : goal.returns-in-Some-clause-took
returns-in-Some-clause-took g c =
    let s = core_of c.args.self.now in
    len_stopped g.S.Store s c.requires (g.met.S.Store.may_fewer s.store) c.args.pin c.in-Some.faults c.in-Some.is

pub returns-in_err-point : goal.returns-in_err-point
returns-in_err-point g c =
    let p = err_from_is_err_and c.from_residual.result c.from_residual.ensures.1 in record {
      took =
          let s = core_of c.args.self.now in
          subst (λ r. Took g.S.Store s (quietly (PinLen c.args.pin) (as_reply reply.Length r)) s)
          (sym (p.1 ∙ ap Err (p.2 ∙ c.in_err-point.ensures.0)))
          (len_lacks g.S.Store s c.requires (g.met.S.Store.may_fewer s.store) c.args.pin c.in_default.is
          (subst (LacksPin c.args.pin) c.deref.ensures.value c.in_err-point.ensures.1));
      memory = subst (λ r. IfErr r IsNoWant) (sym (p.1 ∙ ap Err (p.2 ∙ c.in_err-point.ensures.0))) tt;
      undamaged = subst (λ r. IfErr r IsUndamaged) (sym (p.1 ∙ ap Err (p.2 ∙ c.in_err-point.ensures.0))) tt;
    }

pub returns-clause-took : goal.returns-clause-took
returns-clause-took g c =
    let s = core_of c.args.self.now in
    let point = c.in_ok-point.point.now in
    measured g.S.Store s c.requires (g.met.S.Store.may_fewer s.store) c.args.pin c.in_default.is point c.mix_len.result
    (subst (λ (ps : List Pin). MayFind ps c.args.pin (Some point)) c.deref.ensures.value c.in_ok-point.ensures)
    (c.mix_len.ensures.frames (sources_of (g.S.Store.reads s.store)))
