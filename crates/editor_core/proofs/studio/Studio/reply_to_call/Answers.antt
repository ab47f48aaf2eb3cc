-- A line or another call.
use Rattle.editor_core.proofs.Common.{[], sym, subst, Call, TookOver, core_of, over_silent, spanned}
use Rattle.editor_state.proofs.Calls.EventRuns.{other_none, other_of}
use Rattle.editor_core.proofs.studio.Studio.reply_to_call.Goals as goal

pub returns-in-Line-clause-took : goal.returns-in-Line-clause-took
returns-in-Line-clause-took g c = (
  c.reply_to.result,
  c.reply_of.ensures,
  subst (λ (k : Call). TookOver g.S.Store (spanned (g.V.Vault.tells c.args.vault.now) (core_of c.args.self.now)
      (core_of c.reply_to.new.self) (g.V.Vault.holds c.args.vault.now) (g.V.Vault.holds c.reply_to.new.vault)) k
      c.reply_to.result) (sym c.in-Line.is) c.reply_to.ensures.took,
)

pub other_reply-requires-clause-other : goal.other_reply-requires-clause-other
other_reply-requires-clause-other g c = other_of c.args.call.now c.in_default.not-Line

pub returns-in_default-clause-took : goal.returns-in_default-clause-took
returns-in_default-clause-took g c = (
  c.other_reply.result,
  c.reply_of-in_default.ensures,
  over_silent g.S.Store (core_of c.args.self.now) (g.V.Vault.tells c.args.vault.now)
      (g.V.Vault.holds c.args.vault.now) c.args.call.now c.other_reply.result [] (core_of c.other_reply.new.self)
      (other_none c.args.call.now (other_of c.args.call.now c.in_default.not-Line)) c.other_reply.ensures.took,
)
