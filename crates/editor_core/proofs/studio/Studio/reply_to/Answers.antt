-- A line is a step, of which the vault's move is a part.
use Rattle.editor_core.proofs.Common.{◌≡◌, ◌∙◌, refl, sym, ap, subst, ℕ, List, Result, Reply, Command, Line, Refusal}
use Rattle.editor_core.proofs.Common.{Took, as_reply, with_sound, TookOver, moved_from, VaultCounted, core_of}
use Rattle.editor_core.proofs.Common.{over_silent, spanned}
use Rattle.std.proofs.Common.{is_some}
use Rattle.std.proofs.{lemmas.Bool.true≢false, lemmas.Option.none-some}
use Rattle.pcm_base.specs.{Outside.Sounds, Run.name_in_line}
use Rattle.editor_state.specs.{Applied.Imported}
use Rattle.editor_state.proofs.Calls.VaultCalls.{counted_told, export_none, import_name, imported_done, names_none}
use Rattle.editor_state.proofs.Calls.VaultCalls.{over_sound}
use Rattle.pcm_base.specs.declared.answer.Reply.TheVariants as reply
use Rattle.pcm_base.specs.declared.command.Command.TheVariants as command
use Rattle.editor_core.proofs.studio.Studio.reply_to.Goals as goal

pub returns-in-Import-clause-took : goal.returns-in-Import-clause-took
returns-in-Import-clause-took g c =
    let s = core_of c.args.self.now in
    let new = core_of c.import.new.self in
    let before = g.V.Vault.holds c.args.vault.now in
    let span = spanned (g.V.Vault.tells c.args.vault.now) s new before (g.V.Vault.holds c.import.new.vault) in
    let name = c.as_str.result.now in
    let told = as_reply (λ _. reply.Done) c.import.result in
    let line = Line (command.Import name) in
    let same = c.import.ensures.same in
    let over : TookOver g.S.Store span line told =
    over_sound g.S.Store span line name told refl
    (λ is. subst (λ (z : Sounds). Took g.S.Store s (with_sound line (moved_from (before name) (z name)) told)
    new) (sym same)
    (c.import.ensures.took is))
    (λ is other ne. ap (λ (z : Sounds). z other) same) c.import.ensures.lasts
    (λ n is. subst (λ (k : List ℕ). Imported g.S.Store s k told new) (import_name name n is)
    (imported_done g.S.Store s name c.import.result new c.import.ensures.some c.import.ensures.reason
    c.import.ensures.short)) in
    let command_is : command.Import name ≡ c.args.command.now =
    ap command.Import c.as_str.ensures ∙ sym c.in-Import.is in
    subst (λ (k : Command). TookOver g.S.Store span (Line k) c.done.result) command_is
    (subst (λ (r : Result Reply Refusal). TookOver g.S.Store span line r) (sym c.done.ensures) over)

pub returns-in-Import-clause-faults : goal.returns-in-Import-clause-faults
returns-in-Import-clause-faults g c = λ some.
    let old = g.V.Vault.fault_count c.args.vault.now in
    let new = g.V.Vault.fault_count c.import.new.vault in
    subst (λ (r : Result Reply Refusal). VaultCounted r old new) (sym c.done.ensures)
    (counted_told (λ _. reply.Done) c.import.result old new c.import.ensures.faults)

pub returns-in-Import-clause-untouched : goal.returns-in-Import-clause-untouched
returns-in-Import-clause-untouched g c = λ none. absurd (none-some _ (sym none ∙ ap name_in_line c.in-Import.is))

pub returns-in-Export-clause-took : goal.returns-in-Export-clause-took
returns-in-Export-clause-took g c =
    let s = core_of c.args.self.now in
    let span = spanned (g.V.Vault.tells c.args.vault.now) s (core_of c.export.new.self)
    (g.V.Vault.holds c.args.vault.now) (g.V.Vault.holds c.export.new.vault) in
    let name = c.as_str-in-Export.result.now in
    let told = as_reply reply.Wrote c.export.result in
    let line = Line (command.Export name) in
    let over : TookOver g.S.Store span line told =
    over_sound g.S.Store span line name told refl c.export.ensures.took c.export.ensures.others
    c.export.ensures.lasts (λ n is. absurd (export_none name n is)) in
    let command_is : command.Export name ≡ c.args.command.now =
    ap command.Export c.as_str-in-Export.ensures ∙ sym c.in-Export.is in
    subst (λ (k : Command). TookOver g.S.Store span (Line k) c.wrote.result) command_is
    (subst (λ (r : Result Reply Refusal). TookOver g.S.Store span line r) (sym c.wrote.ensures) over)

pub returns-in-Export-clause-faults : goal.returns-in-Export-clause-faults
returns-in-Export-clause-faults g c = λ some.
    let old = g.V.Vault.fault_count c.args.vault.now in
    let new = g.V.Vault.fault_count c.export.new.vault in
    subst (λ (r : Result Reply Refusal). VaultCounted r old new) (sym c.wrote.ensures)
    (counted_told reply.Wrote c.export.result old new c.export.ensures.faults)

pub returns-in-Export-clause-untouched : goal.returns-in-Export-clause-untouched
returns-in-Export-clause-untouched g c = λ none. absurd (none-some _ (sym none ∙ ap name_in_line c.in-Export.is))

pub returns-in_default : goal.returns-in_default
returns-in_default g c =
    let s = core_of c.args.self.now in
    let silent_now = names_none c.args.command.now c.in_default.not-Import c.in_default.not-Export
    c.in_default.not-Bounce in record {
      took = over_silent g.S.Store s (g.V.Vault.tells c.args.vault.now) (g.V.Vault.holds c.args.vault.now)
          (Line c.args.command.now) c.silent_reply.result c.silent_reply.ensures.0
          (core_of c.silent_reply.new.self) silent_now c.silent_reply.ensures.1;
      tells = refl;
      faults = λ some. absurd (true≢false (sym some ∙ ap is_some silent_now));
      untouched = λ none. refl;
    }
