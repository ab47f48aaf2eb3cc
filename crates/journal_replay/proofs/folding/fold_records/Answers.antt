-- One record more at each pass.
use Rattle.journal_replay.proofs.Common.{ℕ, ◌∙◌, ap, subst, arith, exit_err, kept_none, kept_turn, Next, Goes}
use Rattle.journal_replay.proofs.Common.{last_record, reader_form, Saved, version_of, saved_of}
use Rattle.project_journal.specs.Reader.{Rises}
use Rattle.journal_replay.specs.{Faults.says}
use Rattle.journal_replay.proofs.Journals.{so_none, so_more, so_done, so_early, so_fault, none_here, none_turn}
use Rattle.journal_replay.proofs.Journals.{later_none, later_turn, step_of, fault_of}
use Rattle.journal_replay.proofs.{Few.few_more, Few.few_most, Stepping.after_commit}
use Rattle.project_journal.specs.declared.fault.JournalFault.TheVariants as journal
use Rattle.journal_replay.proofs.folding.fold_records.Goals as goal

pub records-init : goal.records-init
records-init g c = record {
  kept = kept_none c.args.store.now (g.met.S.Store.may_fewer c.args.store.now);
  no_fault = none_here g.S.Store c.args.store.now;
  placed = c.requires.brought.reading.placed;
  later = later_none c.args.reader.now;
  commits = omega (arith, c.requires.commit);
  numbers = c.requires.numbers;
  few = c.requires.few;
  so_far = record {
    brought = c.requires.brought;
    so = so_none g.S.Store c.args.store.now c.args.reader.now (version_of (reader_form c.args.reader.now)) c.args.m
        (saved_of c.args.project) c.requires.size c.requires.brought;
  };
}

pub records-preserved : goal.records-preserved
records-preserved g c =
    let inv = c.records.invariant in
    let so = inv.so_far.so in
    let points = inv.so_far.brought.points in
    let rises =
    subst (λ (n : Next). Rises c.records.reader c.next.new.self n) c.in-Whole.is c.in_ok-next.ensures.rises in
    let v = version_of (reader_form c.args.reader.now) in
    let old = saved_of c.records.project in
    let new = saved_of c.fold_last.new.project in
    let r = last_record c.next.new.self in
    let step = step_of c.args.version v c.args.m old new c.next.new.self.window.file r c.requires.version
    c.in_ok-fold_last-in-Whole.ensures.folds in
    let commit = after_commit old (says v old r.1) in
    let reading = subst (λ (n : Next). Goes g.S.Store c.next.new.store c.next.new.self points so.records n)
    c.in-Whole.is (c.in_ok-next.ensures.goes points so.records so.reading) in
    record {
      kept = kept_turn inv.kept c.next.ensures.kept;
      no_fault =
          none_turn g.S.Store c.args.store.now c.records.store c.next.new.store inv.no_fault c.in_ok-next.ensures.cause;
      placed = rises.0;
      later = later_turn c.args.reader.now c.records.reader c.next.new.self inv.later c.in_ok-next.ensures.later;
      commits = omega (arith, ap (λ (k : Saved). k.commit) step.is, commit, rises.1, inv.commits);
      numbers = c.in_ok-fold_last-in-Whole.ensures.numbers;
      few = few_more g.S.Store c.records.store c.next.new.store c.records.reader c.next.new.self points so.records
          c.records.project.numbered.next c.fold_last.new.project.numbered.next c.in_ok-next.ensures.later so.reading
          reading c.in_ok-fold_last-in-Whole.ensures.few inv.few;
      so_far = record {
        brought = inv.so_far.brought;
        so = so_more g.S.Store c.records.store c.next.new.store c.records.reader c.next.new.self v c.args.m points
            (saved_of c.args.project) old new so reading step;
      };
    }

pub returns-in_err-fold_last-in-Whole-clause-folds : goal.returns-in_err-fold_last-in-Whole-clause-folds
returns-in_err-fold_last-in-Whole-clause-folds g c =
    let inv = c.records.invariant in
    let so = inv.so_far.so in
    let points = inv.so_far.brought.points in
    let later = later_turn c.args.reader.now c.records.reader c.next.new.self inv.later c.in_ok-next.ensures.later in
    rw (exit_err c.from_residual-in_err-fold_last-in-Whole.result c.from_residual-in_err-fold_last-in-Whole.ensures.1)
    (so_fault g.S.Store c.args.store.now c.args.reader.now c.args.m (saved_of c.args.project)
    inv.so_far.brought c.requires.size c.next.new.store c.next.new.self later c.records.store c.records.reader
    (saved_of c.records.project) (saved_of c.fold_last.new.project) c.in_err-fold_last-in-Whole.field-0.0 so
    (subst (λ (n : Next). Goes g.S.Store c.next.new.store c.next.new.self points so.records n) c.in-Whole.is
    (c.in_ok-next.ensures.goes points so.records so.reading))
    (fault_of c.args.version (version_of (reader_form c.args.reader.now)) c.args.m (saved_of c.records.project)
    (saved_of c.fold_last.new.project) c.next.new.self.window.file (last_record c.next.new.self)
    c.in_err-fold_last-in-Whole.field-0.0 c.requires.version c.in_err-fold_last-in-Whole.ensures.folds))

pub returns-in-Shut-clause-folds : goal.returns-in-Shut-clause-folds
returns-in-Shut-clause-folds g c =
    let inv = c.records.invariant in
    let so = inv.so_far.so in
    let points = inv.so_far.brought.points in
    let later = later_turn c.args.reader.now c.records.reader c.next.new.self inv.later c.in_ok-next.ensures.later in
    so_done g.S.Store c.args.store.now c.args.reader.now c.args.m (saved_of c.args.project) inv.so_far.brought
    c.requires.size c.next.new.store c.next.new.self later c.records.store c.records.reader c.records.project so
    inv.numbers inv.few c.in_ok-next.ensures.later
    (subst (λ (n : Next). Goes g.S.Store c.next.new.store c.next.new.self points so.records n) c.in-Shut.is
    (c.in_ok-next.ensures.goes points so.records so.reading))

pub returns-in-Early-clause-folds : goal.returns-in-Early-clause-folds
returns-in-Early-clause-folds g c =
    let inv = c.records.invariant in
    let so = inv.so_far.so in
    let points = inv.so_far.brought.points in
    let later = later_turn c.args.reader.now c.records.reader c.next.new.self inv.later c.in_ok-next.ensures.later in
    rw (c.in_journal.ensures ∙ ap (λ (f : ℕ). journal.Damaged f c.in-Early.fault.at c.in-Early.fault.want
    c.in-Early.fault.have) c.file.ensures)
    (so_early g.S.Store c.args.store.now c.args.reader.now c.args.m (saved_of c.args.project) inv.so_far.brought
    c.requires.size c.next.new.store c.next.new.self later c.records.store c.records.reader (saved_of c.records.project)
    c.in-Early.fault so
    (subst (λ (n : Next). Goes g.S.Store c.next.new.store c.next.new.self points so.records n)
    c.in-Early.is (c.in_ok-next.ensures.goes points so.records so.reading)))

pub fold_last-requires-clause-valid : goal.fold_last-requires-clause-valid
fold_last-requires-clause-valid g c = c.records.invariant.so_far.so.valid

pub fold_last-requires-clause-layouts : goal.fold_last-requires-clause-layouts
fold_last-requires-clause-layouts g c =
    let inv = c.records.invariant in
    few_most c.records.reader c.records.project.numbered.next inv.placed inv.few

pub returns-in_err-next-clause-kept : goal.returns-in_err-next-clause-kept
returns-in_err-next-clause-kept g c = kept_turn c.records.invariant.kept c.next.ensures.kept

pub returns-in_err-fold_last-in-Whole-clause-kept : goal.returns-in_err-fold_last-in-Whole-clause-kept
returns-in_err-fold_last-in-Whole-clause-kept g c = kept_turn c.records.invariant.kept c.next.ensures.kept

pub returns-in-Shut-clause-kept : goal.returns-in-Shut-clause-kept
returns-in-Shut-clause-kept g c = kept_turn c.records.invariant.kept c.next.ensures.kept

pub returns-in-Early-clause-kept : goal.returns-in-Early-clause-kept
returns-in-Early-clause-kept g c = kept_turn c.records.invariant.kept c.next.ensures.kept
