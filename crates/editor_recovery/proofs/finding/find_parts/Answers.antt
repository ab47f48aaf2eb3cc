-- The fold of the journal, and then the sizes and the parts.
use Rattle.editor_recovery.proofs.Common.{◌∙◌, kept_turn, reader_form, AreFiles}
use Rattle.editor_recovery.proofs.{Counted.causes_turn, Opens.not_folded, Opens.stored_read, Resting.rest_after}
use Rattle.editor_recovery.proofs.{Resting.still_durable}
use Rattle.editor_recovery.proofs.finding.find_parts.Goals as goal

pub returns-in-Ok-clause-opens : goal.returns-in-Ok-clause-opens
returns-in-Ok-clause-opens g c = λ tells are foreign opened.
    let old = g.S.Store.reads c.args.store.now in
    let mid = c.fold_disk.new.store in
    let kept = c.fold_disk.ensures.kept in
    let told = kept.same_tells ∙ tells in
    let form = reader_form c.args.disk.reader in
    let fold = c.in-Ok.ensures.folds in
    let listed : AreFiles old c.deref.result.now = rw c.deref.ensures.value are in
    let is = stored_read g.S.Store mid old form fold.0 c.deref.result.now kept.same_reads told fold.1 opened.picked listed
    foreign in
    rw kept.same_reads at (c.size_parts.ensures.opens form fold.0 told (rw kept.same_reads is) fold.2)

pub returns-in-Ok-clause-at_rest : goal.returns-in-Ok-clause-at_rest
returns-in-Ok-clause-at_rest g c = λ tells here other opened.
    let kept = c.fold_disk.ensures.kept in
    rest_after {disk = g.S.Store} c.args.store.now c.fold_disk.new.store c.size_parts.new.store c.args.disk.reader
    c.in-Ok.folded c.size_parts.result kept.same_reads (kept.same_tells ∙ tells)
    (still_durable {disk = g.S.Store} c.args.store.now c.fold_disk.new.store 0 kept here)
    (still_durable {disk = g.S.Store} c.args.store.now c.fold_disk.new.store 1 kept other) opened c.in-Ok.ensures.folds
    c.size_parts.ensures.end c.size_parts.ensures.kept

pub returns-clause-opens : goal.returns-clause-opens
returns-clause-opens g c = λ tells are foreign opened.
    let kept = c.fold_disk.ensures.kept in
    not_folded g.S.Store c.fold_disk.new.store (g.S.Store.reads c.args.store.now) (reader_form c.args.disk.reader)
    c.in-Err.fault kept.same_reads (kept.same_tells ∙ tells) opened.picked foreign c.in-Err.ensures.folds

pub returns-in-Ok-clause-kept : goal.returns-in-Ok-clause-kept
returns-in-Ok-clause-kept g c = kept_turn c.fold_disk.ensures.kept c.size_parts.ensures.kept

pub returns-in-Ok-clause-cause : goal.returns-in-Ok-clause-cause
returns-in-Ok-clause-cause g c = causes_turn g.S.Store c.args.store.now c.fold_disk.new.store c.size_parts.new.store
    c.size_parts.result c.in-Ok.ensures.cause c.size_parts.ensures.cause
