-- What the journal answers.
use Rattle.editor_core.proofs.Common.{◌∷◌, [], arith, length, refl, core_of, form_at, settled, undamaged_settle}
use Rattle.editor_core.proofs.Common.{right_by_record}
use Rattle.editor_core.proofs.studio.Studio.commit_small.Goals as goal

pub returns-clause-record : goal.returns-clause-record
returns-clause-record g c =
    let a = c.append_small-added.ensures in
    let s = core_of c.args.self.now in
    settled g.S.Store s c.append_small-added.new.store (c.args.body.now ∷ []) 1 (length c.args.body.now)
    (λ log. a.any_moment (form_at s) log refl) a.changed a.read_faults (omega (arith, c.requires.small))
    c.append_small-added.result c.settle.result _
    a.answer a.cause a.rose (λ log. a.done (form_at s) log refl) a.untouched c.settle.ensures.fields

pub returns-clause-undamaged : goal.returns-clause-undamaged
returns-clause-undamaged g c =
    undamaged_settle g.S.Store _ _ c.append_small-added.result c.settle.result _ c.settle.ensures.fields

-- the record is in a file of no block
pub invariant_of-self : goal.invariant_of-self
invariant_of-self g c = record {
  right = right_by_record g.S.Store _ c.args.self.now.reader.store c.append_small-added.new.store
      c.args.self.now.reader.cache c.args.self.now.file c.requires.file c.append_small-added.ensures.changed
      c.requires.pages c.args.self.now.reader.right;
}
