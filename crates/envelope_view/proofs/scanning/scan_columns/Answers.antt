-- One column more.
use Rattle.envelope_view.proofs.Common.{◌≡◌, ℕ, ◌+◌, ◌-◌, ◌≤◌, List, [], ◌∷◌, ◌++◌, Option, take, drop, map, sym, ap}
use Rattle.envelope_view.proofs.Common.{subst, ◌∙◌, arith, drop-drop, common_steps, exit_err, Files, counted_from, part}
use Rattle.envelope_view.proofs.Common.{edge, scan_of, Sources, Cell, IsNamed, IsWhole, sources_of, reads_more}
use Rattle.envelope_view.proofs.Common.{reads_none, reads_ok, reads_then, told_on, samples_among, summary_of}
use Rattle.envelope_view.proofs.Common.{layout_blocks, layout_cells, ahead_blocks, ahead_cells, IsKnown, AreWhole}
use Rattle.envelope_view.proofs.Common.{false≢true, same_none, ahead_items, HasItems}
use Rattle.pcm_base.specs.{declared.sound.Scan.Scan}
use Rattle.envelope_view.proofs.{AnswerLaws.reads_reason, AnswerLaws.reason_reads, EdgeLaws.columns_more}
use Rattle.envelope_view.proofs.{EdgeLaws.first_edge, NamedLaws.each_of, BlockReads.hits_none, BlockReads.hits_then}
use Rattle.envelope_view.proofs.{KeptLaws.items_left, KeptLaws.items_on, KeptLaws.column_pages}
use Rattle.clip_track.specs.Clips.{items_from}
use Rattle.envelope_view.proofs.scanning.scan_columns.Goals as goal

-- there was no memory, and nothing was read
pub returns-in_err-scans-clause-reads : goal.returns-in_err-scans-clause-reads
returns-in_err-scans-clause-reads g c =
    rw (exit_err c.from_residual.result c.from_residual.ensures.1) (reads_none tt (g.met.S.Store.may_fewer _))

pub rows-init : goal.rows-init
rows-init g c = record {
  begin = first_edge c.args.from c.args.to c.args.columns;
  stretch = tt;
  blocks = λ b there. c.rest.ensures.blocks b there;
  cells = λ src. c.rest.ensures.cells src ∙ ap (λ (k : ℕ). drop k (layout_cells src c.args.layout.now))
      (first_edge c.args.from c.args.to c.args.columns);
  reads = reads_none tt (g.met.S.Store.may_fewer _);
  hit = hits_none;
  kept = λ has.
      let old = c.args.reader.now.cache in
      let to : ℕ = c.args.to in
      let left : HasItems old 0 (to - c.args.from) c.rest.result =
      subst (HasItems old 0 (to - c.args.from)) (sym c.rest.ensures.items)
      (items_left old c.args.from to (items_from 0 c.args.layout.now) c.requires.rising has) in (
        tt,
        items_on old old 0 (to - c.args.from) (0 - 0) (to - edge c.args.from to c.args.columns 0 - 0) c.rest.result
            (same_none old) (omega arith) (omega (arith, first_edge c.args.from to c.args.columns)) left,
      );
  known = λ told. tt;
  read = λ told whole. c.in_ok-scans.ensures.items;
}

pub sweep-requires-clause-named : goal.sweep-requires-clause-named
sweep-requires-clause-named g c =
    λ b there. each_of IsNamed (layout_blocks c.args.layout.now) c.requires.named b (c.rows.invariant.blocks b there)

pub rows-preserved : goal.rows-preserved
rows-preserved g c =
    let a = c.args in
    let i : ℕ = c.rows.i in
    let old = a.reader.now.cache in
    let inv = c.rows.invariant in
    let files : Files = g.S.Store.reads a.reader.now.store in
    let begin : ℕ = c.rows.begin in
    let end : ℕ = c.edge-end.result in
    let low : begin ≡ edge a.from a.to a.columns i = inv.begin in
    let high : end ≡ edge a.from a.to a.columns (i + 1) = c.edge-end.ensures.value in
    let rising : begin ≤ end = grind (arith, common_steps) in
    record {
      begin = high;
      stretch = c.sweep.ensures.stretch;
      blocks = λ b there. inv.blocks b (c.sweep.ensures.blocks b there);
      cells = λ src.
          let cells : List Cell = layout_cells src a.layout.now in
          let next : edge a.from a.to a.columns i + (end - begin) ≡ edge a.from a.to a.columns (i + 1) =
          omega (arith, low, high, rising) in
          c.in_ok-summary.ensures.passed src
          ∙ ap (drop (end - begin)) (inv.cells src)
          ∙ drop-drop (end - begin) (edge a.from a.to a.columns i) cells
          ∙ ap (λ (k : ℕ). drop k cells) next;
      reads = reads_then {x = tt} inv.reads
          (reads_ok {y = tt} (reads_more (ahead_blocks c.rows.ahead) (layout_blocks a.layout.now) inv.blocks
          c.in_ok-summary.ensures.reads));
      hit = hits_then (λ has. has) (λ has kept. column_pages old _ (a.to - edge a.from a.to a.columns i)
          (end - begin + c.min-reach.result) (ahead_items c.rows.ahead) kept
          (omega (arith, low, rising, c.min-reach.ensures, c.edge-end.ensures.within)) (inv.kept has))
          inv.hit c.in_ok-summary.ensures.hit;
      kept = λ has. c.in_ok-summary.ensures.kept old (a.to - edge a.from a.to a.columns (i + 1))
          (column_pages old old (a.to - edge a.from a.to a.columns i)
          (end - begin + (a.to - edge a.from a.to a.columns (i + 1))) (ahead_items c.rows.ahead) (same_none old)
          (omega (arith, low, high, rising, c.edge-end.ensures.within)) (inv.kept has));
      known = λ told.
          subst (λ (f : Files). IsKnown f c.sweep.new.known) inv.reads.kept.same_reads
          (c.sweep.ensures.known (told_on inv.reads told));
      read = λ told whole.
          let src : Sources = sources_of files in
          let cells : List Cell = layout_cells src a.layout.now in
          let F : ℕ → Option Scan =
          λ k. scan_of (part (edge a.from a.to a.columns k) (edge a.from a.to a.columns (k + 1)) cells) in
          let still = told_on inv.reads told in
          let there : AreWhole files (ahead_blocks c.rows.ahead) =
          λ b is. each_of (IsWhole files) (layout_blocks a.layout.now) whole b (inv.blocks b is) in
          let here =
          subst (λ (f : Files). AreWhole f (ahead_blocks c.rows.ahead)) (sym inv.reads.kept.same_reads) there in
          let size : end - begin ≡ edge a.from a.to a.columns (i + 1) - edge a.from a.to a.columns i =
          omega (arith, low, high) in
          let column : c.in_ok-summary.summary ≡ summary_of
          (samples_among (part (edge a.from a.to a.columns i) (edge a.from a.to a.columns (i + 1)) cells)) =
          c.in_ok-summary.ensures.read still here
          ∙ ap (λ (f : Files). summary_of
          (samples_among (take (end - begin) (ahead_cells (sources_of f) c.rows.ahead)))) inv.reads.kept.same_reads
          ∙ ap (λ (cs : List Cell). summary_of (samples_among (take (end - begin) cs))) (inv.cells src)
          ∙ ap (λ (k : ℕ). summary_of (samples_among (take k (drop (edge a.from a.to a.columns i) cells)))) size in
          c.in_ok-push.ensures.items
          ∙ ap (λ (xs : List (Option Scan)). xs ++ c.scan.result ∷ []) (inv.read told whole)
          ∙ ap (λ (x : Option Scan). map F (counted_from 0 i) ++ x ∷ []) (c.scan.ensures.law
          (part (edge a.from a.to a.columns i) (edge a.from a.to a.columns (i + 1)) cells) column)
          ∙ sym (columns_more F i);
    }

pub returns-in_err-summary-clause-reads : goal.returns-in_err-summary-clause-reads
returns-in_err-summary-clause-reads g c =
    let inv = c.rows.invariant in
    rw (exit_err c.from_residual-in_err-summary.result c.from_residual-in_err-summary.ensures.1)
    (reads_then {x = tt} inv.reads
    (reads_reason (reads_more (ahead_blocks c.rows.ahead) (layout_blocks c.args.layout.now) inv.blocks
    c.in_err-summary.ensures.reads)))

-- there was no memory after the reads
pub returns-in_err-push-clause-reads : goal.returns-in_err-push-clause-reads
returns-in_err-push-clause-reads g c =
    let inv = c.rows.invariant in
    rw (exit_err c.from_residual-in_err-push.result c.from_residual-in_err-push.ensures.1)
    (reads_then {x = tt} inv.reads
    (reads_ok {y = tt} (reads_more (ahead_blocks c.rows.ahead) (layout_blocks c.args.layout.now) inv.blocks
    c.in_ok-summary.ensures.reads)))

pub returns-in_err-summary-clause-reasons : goal.returns-in_err-summary-clause-reasons
returns-in_err-summary-clause-reasons g c =
    rw (exit_err c.from_residual-in_err-summary.result c.from_residual-in_err-summary.ensures.1) (reason_reads _)

pub returns-clause-reads : goal.returns-clause-reads
returns-clause-reads g c = c.rows.invariant.reads

pub returns-in_err-scans-clause-hit : goal.returns-in_err-scans-clause-hit
returns-in_err-scans-clause-hit g c = rw (exit_err c.from_residual.result c.from_residual.ensures.1) hits_none

pub returns-in_err-summary-clause-hit : goal.returns-in_err-summary-clause-hit
returns-in_err-summary-clause-hit g c =
    let a = c.args in
    let inv = c.rows.invariant in
    let seen : ℕ = a.to - edge a.from a.to a.columns c.rows.i in
    let asked : ℕ = c.edge-end.result - c.rows.begin + c.min-reach.result in
    let few : asked ≤ seen = grind (arith, common_steps) in
    rw (exit_err c.from_residual-in_err-summary.result c.from_residual-in_err-summary.ensures.1)
    (λ has. absurd (false≢true (c.in_err-summary.ensures.hit (column_pages a.reader.now.cache _ seen asked
    (ahead_items c.rows.ahead) (inv.hit has).2 few (inv.kept has))).0))

pub returns-in_err-push-clause-hit : goal.returns-in_err-push-clause-hit
returns-in_err-push-clause-hit g c =
    let a = c.args in
    let inv = c.rows.invariant in
    let seen : ℕ = a.to - edge a.from a.to a.columns c.rows.i in
    let asked : ℕ = c.edge-end.result - c.rows.begin + c.min-reach.result in
    let few : asked ≤ seen = grind (arith, common_steps) in
    rw (exit_err c.from_residual-in_err-push.result c.from_residual-in_err-push.ensures.1)
    (hits_then (λ has. has) (λ has kept. column_pages a.reader.now.cache _ seen asked (ahead_items c.rows.ahead) kept
    few
    (inv.kept has)) inv.hit c.in_ok-summary.ensures.hit)

pub returns-clause-hit : goal.returns-clause-hit
returns-clause-hit g c = c.rows.invariant.hit
