-- One event more.
use Rattle.editor_core.proofs.Common.{◌∙◌, refl, sym, ap, subst, List, [], ◌∷◌, ◌++◌, append_assoc, length}
use Rattle.editor_core.proofs.Common.{length-append, take, arith, append-nil, slice_get_read, Answer, RanOver, core_of}
use Rattle.editor_core.proofs.Common.{spanned}
use Rattle.pcm_base.specs.{declared.entry.Event.Event}
use Rattle.editor_state.specs.{Applied.reply_of}
use Rattle.editor_state.proofs.Calls.EventRuns.{over_at, ran_more, ran_none, take_item}
use Rattle.editor_core.proofs.studio.Studio.run_events.Goals as goal

pub events-init : goal.events-init
events-init g c = record {
  ran = (
    [],
    c.in_ok-reserve.ensures.items ∙ sym (append-nil c.args.answers.now.items),
    ran_none g.S.Store g.met.S.Store.may_fewer (g.V.Vault.tells c.args.vault.now)
        (g.V.Vault.holds c.args.vault.now) (core_of c.args.self.now) c.requires.studio,
  );
  tells = refl;
  room = omega (arith, c.in_ok-reserve.ensures.ok, ap length c.in_ok-reserve.ensures.items);
}

pub events-preserved : goal.events-preserved
events-preserved g c =
    let s = core_of c.args.self.now in
    let mid = core_of c.events.self in
    let new = core_of c.reply_to_call-reply.new.self in
    let events = c.args.events.now in
    let i = c.events.event-index in
    let e : Event = c.event-item.result in
    let tells = g.V.Vault.tells c.args.vault.now in
    let before = g.V.Vault.holds c.args.vault.now in
    let here = g.V.Vault.holds c.events.vault in
    let after = g.V.Vault.holds c.reply_to_call-reply.new.vault in
    let was = c.events.invariant.ran in
    let took = c.reply_to_call-reply.ensures.took in
    let get = slice_get_read events _ i e refl c.events-test.true c.event-item.is in
    let all = take_item i events e get in
    let over = over_at g.S.Store tells (spanned (g.V.Vault.tells c.events.vault) mid new here after) e.call took.0
    c.events.invariant.tells took.2 in
    let answer : Answer = record { commit = new.commit_number; reply = reply_of took.0 } in
    let more = ran_more g.S.Store g.met.S.Store.may_fewer tells before here after s mid new c.requires.studio
    (take i events) was.0 was.2 e took.0 over in
    record {
      ran = (
        was.0 ++ answer ∷ [],
        c.in_ok-push.ensures.items
            ∙ (λ k. was.1 k ++ record { commit = new.commit_number; reply = took.1 k } ∷ [])
            ∙ append_assoc c.args.answers.now.items was.0 (answer ∷ []),
        subst (λ (es : List Event).
            RanOver g.S.Store (spanned tells s new before after) es (was.0 ++ answer ∷ [])) (sym all) more,
      );
      tells = c.reply_to_call-reply.ensures.tells ∙ c.events.invariant.tells;
      room = omega (
        arith,
        c.events.invariant.room,
        c.in_ok-push.ensures.capacity,
        ap length c.in_ok-push.ensures.items,
        length-append c.events.answers.items (answer ∷ []),
        c.events-test.true,
      );
    }
