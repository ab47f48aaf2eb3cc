-- The track at hand fits, or one of its fields does not.
use Rattle.record_body.proofs.Common.{◌≡◌, ◌+◌, ◌++◌, refl, ap, sym, ◌∙◌, arith, exit_err, track_size, track_widths}
use Rattle.record_body.proofs.Common.{tracks_widths}
use Rattle.record_body.proofs.Reaching.{sum_track, next_past, next_fits, all_fit}
use Rattle.record_body.proofs.measuring.fit_tracks.Goals as goal

pub returns-in_err-end : goal.returns-in_err-end
returns-in_err-end c =
    let bytes = c.args.bytes.now in
    let end = c.loop.end in
    rw (exit_err c.from_residual.result c.from_residual.ensures.1)
    (next_past _ (track_widths end bytes) _ _ _ _ (λ n. tracks_widths n (end + track_size end bytes) bytes) _ _
    (omega (arith, c.loop-test.true)) (λ n. refl) c.loop.invariant c.in_err-end.ensures)

pub loop-preserved : goal.loop-preserved
loop-preserved c =
    let bytes = c.args.bytes.now in
    let end : c.loop.end + track_size c.loop.end bytes ≡ c.in_ok-end.end =
    ap (λ n. c.loop.end + n) (sym (sum_track c.loop.end bytes)) ∙ sym c.in_ok-end.ensures.0 in
    next_fits _ (track_widths c.loop.end bytes) _ _ _ _ _ _ _ (omega (arith, c.loop-test.true)) (omega arith)
    (λ n. ap (λ a. track_widths c.loop.end bytes ++ tracks_widths n a bytes) end) c.loop.invariant c.in_ok-end.ensures

pub returns : goal.returns
returns c = all_fit _ _ _ _ _ _ (omega (arith, c.loop-test.false)) refl c.loop.invariant
