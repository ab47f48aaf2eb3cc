-- The studio made the call, so the turn made the list longer by its deed.
use Rattle.studio_seats.proofs.Common.{◌≡◌, ◌∙◌, ap, sym, subst, IfErr, Answer, Refused, Line, Heard}
use Rattle.studio_seats.proofs.Common.{name_in_line, start_of, asked, move_of, as_reply}
use Rattle.editor_state.specs.{Vaults.VaultCounted}
use Rattle.studio_seats.proofs.Lines.{does_line, heard_still, refused_reply}
use Rattle.studio_seats.proofs.Turns.{either_way, fits, if_taken, is_studio, says}
use Rattle.studio_seats.proofs.desk.Desk.apply.Goals as goal

pub with-requires-clause-fits : goal.with-requires-clause-fits
with-requires-clause-fits g c =
    fits g.S.Store g.V.Vault _ _ _ _ (λ _. Line c.args.command.now) (λ s f'. as_reply (λ _. f'.3.now.reply) s.what)
    (λ f'. move_of (name_in_line c.args.command.now) (g.V.Vault.holds c.args.vault.now) (g.V.Vault.holds f'.1.now))
    (λ more x others stood y is. (
      is_studio g.S.Store g.V.Vault (start_of c.args.self.now.turn) x y.now _ stood is,
      (c.requires.in_form, c.requires.turn),
    ))
    (λ s f' x x' called. does_line g.S.Store _ _ _ _ _ (λ all. all c.args.vault.now) called.called.met.1.0)

pub returns-clause-says : goal.returns-clause-says
returns-clause-says g c =
    says g.S.Store g.V.Vault _ _ _ _ (λ _. Line c.args.command.now) (λ s f'. as_reply (λ _. f'.3.now.reply) s.what)
    (λ f'. move_of (name_in_line c.args.command.now) (g.V.Vault.holds c.args.vault.now) (g.V.Vault.holds f'.1.now)) _
    (λ s. asked (Line c.args.command.now) (as_reply (λ _. c.answer-1.given.0.reply) s.what)
    (move_of (name_in_line c.args.command.now) (g.V.Vault.holds c.args.vault.now) (g.V.Vault.holds c.vault-1.given.0)))
    _ _ _ c.with.ensures.turned c.said_by.ensures
    (λ s x x' called. record {
      does = does_line g.S.Store _ _ _ _ _ (λ all. all c.args.vault.now) called.called.met.1.0;
      number = called.called.met.1.1.0;
      is = λ i. asked (Line c.args.command.now)
          (as_reply (λ _. (sym (c.answer-1.given.1 (sym called.called.met.0.3)) i).reply) s.what)
          (move_of (name_in_line c.args.command.now) (g.V.Vault.holds c.args.vault.now)
          (g.V.Vault.holds (sym (c.vault-1.given.1 (sym called.called.met.0.1)) i)));
    })

pub returns-clause-commit : goal.returns-clause-commit
returns-clause-commit g c =
    if_taken g.S.Store g.V.Vault _ _ _ _ _ _ _ _ _ (λ s. c.answer-1.given.0.commit ≡ s.at) c.with.ensures.turned
    c.said_by.ensures (λ s x x' called. ap (λ (z : Answer). z.commit) (c.answer-1.given.1 (sym called.called.met.0.3))
    ∙ called.called.met.1.0.commit ∙ sym called.called.met.1.1.0)

pub returns-clause-refused : goal.returns-clause-refused
returns-clause-refused g c =
    if_taken g.S.Store g.V.Vault _ _ _ _ _ _ _ _ _ (λ s. IfErr s.what (λ why. c.answer-1.given.0.reply ≡ Refused why))
    c.with.ensures.turned c.said_by.ensures
    (λ s x x' called.
    let a = called.called.met.1.0 in
    subst (λ (z : Answer). IfErr s.what (λ why. z.reply ≡ Refused why))
    (sym (c.answer-1.given.1 (sym called.called.met.0.3))) (refused_reply a.told s.what _ a.reply a.ends))

pub returns-clause-heard : goal.returns-clause-heard
returns-clause-heard g c = λ told.
    let name = name_in_line c.args.command.now in
    let before = g.V.Vault.holds c.args.vault.now in
    either_way g.S.Store g.V.Vault _ _ _ _ _ _ _ _ _ c.with.ensures.turned
    (λ same.
    let left = c.vault-1.given.1 (sym (λ i. (same i).1.ghost_name)) ∙ (λ i. (same i).1.now) in
    subst (λ (z : g.row.V.Denot). Heard name (move_of name before (g.V.Vault.holds z)) before (g.V.Vault.holds z))
    (sym left) (heard_still name before))
    (λ s x x' called.
    let left = c.vault-1.given.1 (sym called.called.met.0.1) in
    subst (λ (z : g.row.V.Denot). Heard name (move_of name before (g.V.Vault.holds z)) before (g.V.Vault.holds z))
    (sym left) (called.called.met.1.0.over.heard told))

pub returns-clause-tells : goal.returns-clause-tells
returns-clause-tells g c =
    either_way g.S.Store g.V.Vault _ _ _ _ _ _ _ _ _ c.with.ensures.turned
    (λ same. ap g.V.Vault.tells (c.vault-1.given.1 (sym (λ i. (same i).1.ghost_name)) ∙ (λ i. (same i).1.now)))
    (λ s x x' called. ap g.V.Vault.tells (c.vault-1.given.1 (sym called.called.met.0.1)) ∙ called.called.met.1.1.1.0)

pub returns-clause-faults : goal.returns-clause-faults
returns-clause-faults g c = λ unspent some.
    let old = g.V.Vault.fault_count c.args.vault.now in
    if_taken g.S.Store g.V.Vault _ _ _ _ _ _ _ _ _
    (λ s. VaultCounted s.what old (g.V.Vault.fault_count c.vault-1.given.0)) c.with.ensures.turned c.said_by.ensures
    (λ s x x' called.
    let left = c.vault-1.given.1 (sym called.called.met.0.1) in
    subst (λ (z : g.row.V.Denot). VaultCounted s.what old (g.V.Vault.fault_count z)) (sym left)
    (called.called.met.1.1.1.1.0 some)) unspent

pub returns-clause-untouched : goal.returns-clause-untouched
returns-clause-untouched g c = λ none. either_way g.S.Store g.V.Vault _ _ _ _ _ _ _ _ _ c.with.ensures.turned
    (λ same. c.vault-1.given.1 (sym (λ i. (same i).1.ghost_name)) ∙ (λ i. (same i).1.now))
    (λ s x x' called. c.vault-1.given.1 (sym called.called.met.0.1) ∙ called.called.met.1.1.1.1.1 none)
