-- The clip at hand fits, or one of its fields does not.
use Rattle.record_body.proofs.Common.{◌≡◌, ◌+◌, ◌++◌, refl, ap, sym, ◌∙◌, arith, exit_err, clip_size, clip_widths}
use Rattle.record_body.proofs.Common.{clips_widths}
use Rattle.record_body.proofs.Reaching.{sum_clip, next_past, next_fits, all_fit}
use Rattle.record_body.proofs.measuring.fit_clips.Goals as goal

pub returns-in_err-end : goal.returns-in_err-end
returns-in_err-end c =
    let bytes = c.args.bytes.now in
    let end = c.loop.end in
    rw (exit_err c.from_residual.result c.from_residual.ensures.1)
    (next_past _ (clip_widths end bytes) _ _ _ _ (λ n. clips_widths n (end + clip_size end bytes) bytes) _ _
    (omega (arith, c.loop-test.true)) (λ n. refl) c.loop.invariant c.in_err-end.ensures)

pub loop-preserved : goal.loop-preserved
loop-preserved c =
    let bytes = c.args.bytes.now in
    let end : c.loop.end + clip_size c.loop.end bytes ≡ c.in_ok-end.end =
    ap (λ n. c.loop.end + n) (sym (sum_clip c.loop.end bytes)) ∙ sym c.in_ok-end.ensures.0 in
    next_fits _ (clip_widths c.loop.end bytes) _ _ _ _ _ _ _ (omega (arith, c.loop-test.true)) (omega arith)
    (λ n. ap (λ a. clip_widths c.loop.end bytes ++ clips_widths n a bytes) end) c.loop.invariant c.in_ok-end.ensures

pub returns : goal.returns
returns c = all_fit _ _ _ _ _ _ (omega (arith, c.loop-test.false)) refl c.loop.invariant
