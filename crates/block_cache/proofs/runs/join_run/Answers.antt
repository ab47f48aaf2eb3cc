-- The first frame is joined, those of as many samples, and the last.
use Rattle.block_cache.proofs.Common.{◌≡◌, ◌+◌, ◌-◌, ◌*◌, ◌∙◌, ap, arith, sym, ℕ}
use Rattle.std.proofs.Common.{suc}
use Rattle.std.specs.{Prelude.fold, Prelude.map, List.range_with_len}
use Rattle.peak_summary.specs.Peaks.{joined}
use Rattle.sample_block.specs.Faults.{frame_in}
use Rattle.block_cache.specs.Pages.{run_frame}
use Rattle.block_cache.proofs.RunLaws.{joined_parts, made_cut, whole_frame}
use Rattle.block_cache.proofs.runs.join_run.Goals as goal

pub returns-then-count-eq1 : goal.returns-then-count-eq1
returns-then-count-eq1 c =
    let r = c.args.run in
    let f = run_frame c.args.bytes.now r.level r.block.len r.from in
    c.join-front.ensures.exact ∙ ap (joined c.args.before) c.frame_of-first.ensures
    ∙ ap (λ n. fold joined c.args.before (map f (range_with_len c.args.skip n))) (sym c.if-count-eq1.true)
    ∙ ap (fold joined c.args.before) (sym (made_cut f r.count c.args.skip c.args.count c.requires.there))

pub returns : goal.returns
returns c =
    let r = c.args.run in
    let f = run_frame c.args.bytes.now r.level r.block.len r.from in
    let n : ℕ = c.args.count - 2 in
    let size : suc (n + 1) ≡ c.args.count = omega arith in
    let between : c.args.skip + c.args.count - 1 - (c.args.skip + 1) ≡ n = omega arith in
    joined_parts f (λ k. frame_in c.args.bytes.now (12 * k) c.frame_of-first.result.count) c.args.before
    c.join-front.result c.join_alike-all.result c.join.result c.args.skip n (c.args.skip + c.args.count - 1) (omega arith)
    (λ k low high. ap (frame_in c.args.bytes.now (12 * k))
    (whole_frame r.level r.block.len (r.from + k) (omega arith)
    ∙ sym (whole_frame r.level r.block.len (r.from + c.args.skip) (omega arith))
    ∙ ap (λ s. s.count) (sym c.frame_of-first.ensures)))
    (c.join-front.ensures.exact ∙ ap (joined c.args.before) c.frame_of-first.ensures)
    (c.join_alike-all.ensures ∙ ap (λ m. fold joined c.join-front.result
    (map (λ k. frame_in c.args.bytes.now (12 * k) c.frame_of-first.result.count)
    (range_with_len (c.args.skip + 1) m))) between)
    (c.join.ensures.exact ∙ ap (joined c.join_alike-all.result) c.frame_of.ensures)
    ∙ ap (λ m. fold joined c.args.before (map f (range_with_len c.args.skip m))) size
    ∙ ap (fold joined c.args.before) (sym (made_cut f r.count c.args.skip c.args.count c.requires.there))
