-- An opening of the journal, and then a listing.
use Rattle.editor_recovery.proofs.Common.{◌∙◌, Err, subst, Files, JournalFault, Reader, Disk, Lists, Refuses}
use Rattle.editor_recovery.proofs.{Opens.with_fault, Opens.with_listing, Counted.causes_turn, Counted.journal_none}
use Rattle.editor_recovery.proofs.{Resting.changed_after, Resting.durable_after, Resting.still_heading}
use Rattle.project_journal.specs.Opening as journal
use Rattle.editor_recovery.proofs.reading.read_disk.Goals as goal

pub returns-in-Ok-clause-reads : goal.returns-in-Ok-clause-reads
returns-in-Ok-clause-reads g c = λ tells.
    with_listing (g.S.Store.reads c.args.store.now) c.in-Ok.reader c.with_files.result (c.in-Ok.ensures.opens tells)
    c.with_files.ensures.reader
    (subst (λ (f : Files). Lists f (λ (d : Disk). d.files.items) c.with_files.result) c.open_journal.ensures.reads
    (c.with_files.ensures.lists (c.open_journal.ensures.changed.tells ∙ tells)))

pub returns-in-Ok-clause-heading : goal.returns-in-Ok-clause-heading
returns-in-Ok-clause-heading g c =
    still_heading {disk = g.S.Store} c.open_journal.new.store c.with_files.new.store c.in-Ok.reader c.with_files.result
    c.in-Ok.ensures.heading c.with_files.ensures.reader c.with_files.ensures.kept

pub returns-in-Ok-clause-durable : goal.returns-in-Ok-clause-durable
returns-in-Ok-clause-durable g c = durable_after c.open_journal.new.store c.with_files.new.store 0 c.with_files.result
    c.with_files.ensures.kept c.in-Ok.ensures.durable

pub returns-in-Ok-clause-other : goal.returns-in-Ok-clause-other
returns-in-Ok-clause-other g c = durable_after c.open_journal.new.store c.with_files.new.store 1 c.with_files.result
    c.with_files.ensures.kept c.in-Ok.ensures.other

pub returns-in-Ok-clause-cause : goal.returns-in-Ok-clause-cause
returns-in-Ok-clause-cause g c = causes_turn g.S.Store c.args.store.now c.open_journal.new.store c.with_files.new.store
    c.with_files.result c.in-Ok.ensures.cause c.with_files.ensures.cause

pub returns-in-Ok-clause-changed : goal.returns-in-Ok-clause-changed
returns-in-Ok-clause-changed g c = changed_after c.open_journal.ensures.changed c.with_files.ensures.kept

pub returns-in-Err-Damaged-clause-cause : goal.returns-in-Err-Damaged-clause-cause
returns-in-Err-Damaged-clause-cause g c =
    causes_turn g.S.Store c.args.store.now c.open_journal.new.store c.refused.new.store c.refused.result
    (journal_none g.S.Store Reader c.args.store.now c.open_journal.new.store c.in-Err-Damaged.field-0
    (λ same. absurd cc) c.in-Err-Damaged.ensures.cause)
    c.refused.ensures.cause

pub returns-in-Err-Damaged-clause-changed : goal.returns-in-Err-Damaged-clause-changed
returns-in-Err-Damaged-clause-changed g c = changed_after c.open_journal.ensures.changed c.refused.ensures.kept

pub returns-in-Err-Damaged-clause-reads : goal.returns-in-Err-Damaged-clause-reads
returns-in-Err-Damaged-clause-reads g c = λ tells.
    let files = g.S.Store.reads c.args.store.now in
    with_fault files c.in-Err-Damaged.file c.in-Err-Damaged.at c.in-Err-Damaged.want c.in-Err-Damaged.have
    c.refused.result
    (subst (λ (e : JournalFault). journal.Opens files (Err e)) c.in-Err-Damaged.field-0-is
    (c.in-Err-Damaged.ensures.opens tells))
    (subst (λ (f : Files). Refuses f c.in-Err-Damaged.file c.in-Err-Damaged.at c.in-Err-Damaged.want
    c.in-Err-Damaged.have c.refused.result) c.open_journal.ensures.reads
    (c.refused.ensures.refuses (c.open_journal.ensures.changed.tells ∙ tells)))
