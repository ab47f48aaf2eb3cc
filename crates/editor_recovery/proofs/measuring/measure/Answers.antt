-- One file more is measured.
use Rattle.editor_recovery.proofs.Common.{◌≡◌, ℕ, get_or, inl, ap, ◌∙◌, arith, ◌==◌, if◌then◌else◌, Files, size_in}
use Rattle.editor_recovery.proofs.Common.{file_size, kept_none, kept_turn}
use Rattle.pcm_base.proofs.Exits.{exit_err}
use Rattle.editor_recovery.specs.{declared.sizes.Sizes.Sizes}
use Rattle.editor_recovery.proofs.Counted.{causes_handed, none_turn, no_fault}
use Rattle.editor_recovery.proofs.Measures.{measured_right, measured_here, measured_still, listed_still, all_measured}
use borrow.Author.Count.{below_more}
use Rattle.editor_recovery.proofs.measuring.measure.Goals as goal

pub loop-i-init : goal.loop-i-init
loop-i-init g c = record {
  kept = kept_none c.args.store.now (g.met.S.Store.may_fewer c.args.store.now);
  no_fault = no_fault g.S.Store c.args.store.now;
  listed = λ file. inl (c.new-sizes.ensures file);
  there = λ tells k lt. absurd (omega (arith, lt));
  right = λ tells file. inl (c.new-sizes.ensures file);
}

pub returns-in_err-measure_one-clause-kept : goal.returns-in_err-measure_one-clause-kept
returns-in_err-measure_one-clause-kept g c = kept_turn c.loop-i.invariant.kept c.measure_one.ensures.kept

pub returns-in_err-measure_one-clause-cause : goal.returns-in_err-measure_one-clause-cause
returns-in_err-measure_one-clause-cause g c =
    rw (exit_err c.from_residual.result c.from_residual.ensures.1) (causes_handed g.S.Store
    (Unit {0}) Sizes c.args.store.now c.loop-i.store c.measure_one.new.store c.in_err-measure_one.field-0.0
    c.loop-i.invariant.no_fault c.in_err-measure_one.ensures.cause)

pub loop-i-preserved : goal.loop-i-preserved
loop-i-preserved g c =
    let inv = c.loop-i.invariant in
    let files = c.args.files.now in
    let old = size_in c.loop-i.sizes in
    let new = size_in c.measure_one.new.sizes in
    let file = get_or files c.loop-i.i 0 in
    let real = file_size (g.S.Store.reads c.args.store.now) in
    record {
      kept = kept_turn inv.kept c.measure_one.ensures.kept;
      no_fault = none_turn g.S.Store c.args.store.now c.loop-i.store c.measure_one.new.store inv.no_fault
          c.in_ok-measure_one.ensures.cause;
      listed = listed_still files old new c.loop-i.i c.loop-i-test.true c.in_ok-measure_one.ensures.same inv.listed;
      there = λ tells.
          let is : (other : ℕ) → new other ≡ (if other == file then real file else old other) = λ other.
          c.in_ok-measure_one.ensures.sizes (inv.kept.same_tells ∙ tells) other
          ∙ ap (λ (f : Files). if other == file then file_size f file else old other) inv.kept.same_reads in
          below_more (λ k. new (get_or files k 0) ≡ real (get_or files k 0)) c.loop-i.i
          (λ k lt. measured_right old new real file is (get_or files k 0) (inv.there tells k lt))
          (measured_here old new real file is);
      right = λ tells other.
          let is : (other : ℕ) → new other ≡ (if other == file then real file else old other) = λ other.
          c.in_ok-measure_one.ensures.sizes (inv.kept.same_tells ∙ tells) other
          ∙ ap (λ (f : Files). if other == file then file_size f file else old other) inv.kept.same_reads in
          measured_still old new real file is other (inv.right tells other);
    }

pub returns-clause-sizes : goal.returns-clause-sizes
returns-clause-sizes g c = λ tells are.
    all_measured (g.S.Store.reads c.args.store.now) c.args.files.now (size_in c.loop-i.sizes) are (λ k lt.
    c.loop-i.invariant.there tells k (omega (arith, lt, c.loop-i-test.false))) (c.loop-i.invariant.right tells)
