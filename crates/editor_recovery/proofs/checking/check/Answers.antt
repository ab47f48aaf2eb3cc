-- The list of the blocks, and then each of them.
use Rattle.editor_recovery.proofs.Common.{◌∙◌, Ok, Err, sym, ap, history_blocks}
use Rattle.editor_recovery.proofs.Common.{core_of, AreListed, ChecksStudio}
use Rattle.pcm_base.proofs.Exits.{after_err}
use Rattle.editor_recovery.proofs.Checked.{all_named, checks_none, checks_studio}
use Rattle.editor_recovery.proofs.checking.check.Goals as goal

pub returns-in_err-blocks : goal.returns-in_err-blocks
returns-in_err-blocks g c =
    let s = core_of c.args.studio.now in
    after_err (λ r. ChecksStudio g.S.Store s r s) _ c.from_residual.result c.from_residual.ensures.1
    (checks_none g.S.Store s c.requires.studio c.requires.going (g.met.S.Store.may_fewer s.store))

pub scan_all-requires-clause-named : goal.scan_all-requires-clause-named
scan_all-requires-clause-named g c =
    let s = core_of c.args.studio.now in
    rw c.deref.ensures.value (all_named g.S.Store s c.in_ok-blocks.blocks.items c.in_ok-blocks.ensures)

pub returns-in-Ok : goal.returns-in-Ok
returns-in-Ok g c =
    let s = core_of c.args.studio.now in
    let listed : AreListed (history_blocks s.history) c.deref.result.now =
    rw c.deref.ensures.value c.in_ok-blocks.ensures in
    checks_studio g.S.Store s c.deref.result.now listed (Ok c.in-Ok.field-0) (Ok c.len.result)
    (core_of c.scan_all.new.studio) (ap Ok (c.len.ensures ∙ sym c.deref.ensures.len)) c.in-Ok.ensures

pub returns : goal.returns
returns g c =
    let s = core_of c.args.studio.now in
    let listed : AreListed (history_blocks s.history) c.deref.result.now =
    rw c.deref.ensures.value c.in_ok-blocks.ensures in
    checks_studio g.S.Store s c.deref.result.now listed (Err c.in-Err.fault) (Err c.into.result)
    (core_of c.scan_all.new.studio) (ap Err c.into.ensures) c.in-Err.ensures
