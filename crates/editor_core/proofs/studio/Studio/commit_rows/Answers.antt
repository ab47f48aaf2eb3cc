-- What the journal answers.
use Rattle.editor_core.proofs.Common.{refl, subst, ℕ, ◌-◌, length, vec_capacity, arith, core_of, form_at, settled}
use Rattle.editor_core.proofs.Common.{no_want, undamaged_settle, right_by_record}
use Rattle.disk_model.specs.{Disk.SameElsewhere, Frames.Changed}
use Rattle.project_journal.specs.{Answer.Appends, Rooms.append_room}
use Rattle.project_journal.proofs.Together.{rows_size}
use Rattle.editor_core.proofs.studio.Studio.commit_rows.Goals as goal

pub returns-clause-records : goal.returns-clause-records
returns-clause-records g c whole bodies are many =
    let a = c.append_records-added.ensures in
    let s = core_of c.args.self.now in
    let rows = c.args.self.now.row.items in
    let size = rows_size rows bodies are c.requires.some in
    settled g.S.Store s c.append_records-added.new.store bodies c.args.count whole
    (λ log tells here. a.any_moment (form_at s) log bodies refl tells here are)
    (subst (λ (n : ℕ). Changed g.S.Store (SameElsewhere s.file) (append_room (g.S.Store.reads s.store s.file) n) s.store
    c.append_records-added.new.store) size a.changed) a.read_faults (omega (arith, size, c.requires.short))
    c.append_records-added.result c.settle.result _
    (subst (λ (n : ℕ). Appends s.journal_end n c.append_records-added.result) size a.answer) a.cause a.rose
    (λ log tells here. a.done (form_at s) log bodies refl tells here are) a.untouched c.settle.ensures.fields

pub returns-clause-memory : goal.returns-clause-memory
returns-clause-memory g c room =
    let a = c.append_records-added.ensures in
    let rows = c.args.self.now.row.items in
    no_want g.S.Store _ _ c.append_records-added.result c.settle.result _ _ (length rows - 5)
    (vec_capacity c.args.self.now.row - 1) a.answer (λ e. omega (arith, a.room e, c.requires.some))
    (omega (arith, room, c.requires.some)) c.settle.ensures.fields

pub returns-clause-undamaged : goal.returns-clause-undamaged
returns-clause-undamaged g c =
    undamaged_settle g.S.Store _ _ c.append_records-added.result c.settle.result _ c.settle.ensures.fields

-- the record is in a file of no block
pub invariant_of-self : goal.invariant_of-self
invariant_of-self g c = record {
  right = right_by_record g.S.Store _ c.args.self.now.reader.store c.append_records-added.new.store
      c.args.self.now.reader.cache c.args.self.now.file c.requires.file c.append_records-added.ensures.changed
      c.requires.pages c.args.self.now.reader.right;
}
