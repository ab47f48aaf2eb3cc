-- What the journal answers.
use Rattle.editor_core.proofs.Common.{◌∷◌, [], refl, core_of, form_at, settled, no_want, undamaged_settle}
use Rattle.editor_core.proofs.Common.{right_by_record}
use Rattle.editor_core.proofs.studio.Studio.commit_written.Goals as goal

pub returns-clause-record : goal.returns-clause-record
returns-clause-record g c whole =
    let a = rw c.deref.ensures.value at c.append-added.ensures in
    let s = core_of c.args.self.now in
    settled g.S.Store s c.append-added.new.store (c.args.self.now.body.items ∷ []) 1 whole
    (λ log. a.any_moment (form_at s) log refl) a.changed a.read_faults c.requires.short
    c.append-added.result c.settle.result _ a.answer a.cause a.rose (λ log. a.done (form_at s) log refl) a.untouched
    c.settle.ensures.fields

pub returns-clause-memory : goal.returns-clause-memory
returns-clause-memory g c room =
    let a = rw c.deref.ensures.value at c.append-added.ensures in
    no_want g.S.Store _ _ c.append-added.result c.settle.result _ _ _ _ a.answer a.room room c.settle.ensures.fields

pub returns-clause-undamaged : goal.returns-clause-undamaged
returns-clause-undamaged g c =
    undamaged_settle g.S.Store _ _ c.append-added.result c.settle.result _ c.settle.ensures.fields

-- the record is in a file of no block
pub invariant_of-self : goal.invariant_of-self
invariant_of-self g c = record {
  right = right_by_record g.S.Store _ c.args.self.now.reader.store c.append-added.new.store
      c.args.self.now.reader.cache c.args.self.now.file c.requires.file c.append-added.ensures.changed c.requires.pages
      c.args.self.now.reader.right;
}
