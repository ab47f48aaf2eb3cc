-- The answer is filled.
use Rattle.editor_core.proofs.Common.{◌≡◌, refl, subst, Result, Ok, Err, Reply, Line, Refusal, TookOver, VaultCounted}
use Rattle.editor_core.proofs.Common.{core_of, spanned}
use Rattle.editor_core.proofs.studio.Studio.apply.Given.{Over}
use Rattle.editor_core.proofs.studio.Studio.apply.Goals.{After-reply_to-told}
use Rattle.editor_core.proofs.studio.Studio.apply.Goals as goal

-- what was told, as it is
over : (g : Over) (c : After-reply_to-told g) (r : Result Reply Refusal) → c.reply_to-told.result ≡ r
    → TookOver g.S.Store (spanned (g.V.Vault.tells c.args.vault.now) (core_of c.args.self.now)
    (core_of c.reply_to-told.new.self) (g.V.Vault.holds c.args.vault.now) (g.V.Vault.holds c.reply_to-told.new.vault))
    (Line c.args.command.now) r
over g c r is =
    subst (λ r. TookOver g.S.Store (spanned (g.V.Vault.tells c.args.vault.now) (core_of c.args.self.now)
    (core_of c.reply_to-told.new.self) (g.V.Vault.holds c.args.vault.now) (g.V.Vault.holds c.reply_to-told.new.vault))
    (Line c.args.command.now) r) is c.reply_to-told.ensures.took

pub returns-in-Ok-clause-applied : goal.returns-in-Ok-clause-applied
returns-in-Ok-clause-applied g c = record {
  told = Ok c.in-Ok.reply;
  over = over g (goal.at.returns-in-Ok-clause-applied g c).After-reply_to-told (Ok c.in-Ok.reply) c.in-Ok.is;
  commit = refl;
  reply = refl;
  ends = tt;
}

pub returns-in-Ok-clause-faults : goal.returns-in-Ok-clause-faults
returns-in-Ok-clause-faults g c = λ some.
    let old = g.V.Vault.fault_count c.args.vault.now in
    let new = g.V.Vault.fault_count c.reply_to-told.new.vault in
    subst (λ (r : Result Reply Refusal). VaultCounted r old new) c.in-Ok.is (c.reply_to-told.ensures.faults some)

pub returns-in-Err-clause-applied : goal.returns-in-Err-clause-applied
returns-in-Err-clause-applied g c = record {
  told = Err c.in-Err.reason;
  over = over g (goal.at.returns-in-Err-clause-applied g c).After-reply_to-told (Err c.in-Err.reason) c.in-Err.is;
  commit = refl;
  reply = refl;
  ends = refl;
}

pub returns-in-Err-clause-faults : goal.returns-in-Err-clause-faults
returns-in-Err-clause-faults g c = λ some.
    let old = g.V.Vault.fault_count c.args.vault.now in
    let new = g.V.Vault.fault_count c.reply_to-told.new.vault in
    subst (λ (r : Result Reply Refusal). VaultCounted r old new) c.in-Err.is (c.reply_to-told.ensures.faults some)
