-- What the fold says of the journal, told of the disk.
use Rattle.editor_recovery.proofs.Common.{ap, ℕ, Base, Project, Folded}
use Rattle.editor_recovery.proofs.Folding.{folds, folded_valid, later_form, unfolded_as}
use Rattle.editor_recovery.proofs.finding.fold_disk.Goals as goal

-- what the reader and the records make
abbrev folded : (rate block_size file version generation end : ℕ) → Project → Folded
folded rate block_size file version generation end project = record {
  rate = rate;
  block_size = block_size;
  file = file;
  version = version;
  generation = generation;
  end = end;
  project = project;
}

pub returns-in-Ok-clause-folds : goal.returns-in-Ok-clause-folds
returns-in-Ok-clause-folds g c =
    let r = c.fold_journal.new.reader in
    let f : Folded = folded c.rate.result c.block_size.result c.file.result c.version_in.result
    c.base.result.generation c.end.result c.in-Ok.project in
    rw (later_form c.args.reader r c.in-Ok.ensures.later) at
    (folds g.S.Store c.fold_journal.new.store r f c.in-Ok.ensures.folds c.rate.ensures c.block_size.ensures c.end.ensures
    c.file.ensures c.version_in.ensures (ap (λ (b : Base). b.generation) c.base.ensures))

pub returns-in-Ok-clause-valid : goal.returns-in-Ok-clause-valid
returns-in-Ok-clause-valid g c =
    folded_valid g.S.Store c.fold_journal.new.store c.fold_journal.new.reader
    (folded c.rate.result c.block_size.result c.file.result c.version_in.result c.base.result.generation c.end.result
    c.in-Ok.project) c.in-Ok.ensures.folds c.rate.ensures c.block_size.ensures c.end.ensures c.file.ensures
    c.version_in.ensures (ap (λ (b : Base). b.generation) c.base.ensures)

pub returns-clause-folds : goal.returns-clause-folds
returns-clause-folds g c =
    rw c.unfolded.ensures (unfolded_as g.S.Store c.fold_journal.new.store c.args.reader c.fold_journal.new.reader
    c.in-Err.fault c.in-Err.ensures.later c.in-Err.ensures.folds)
