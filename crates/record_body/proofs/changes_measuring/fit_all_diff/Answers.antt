-- The track at hand fits, or one of its fields does not, or its mark is not known.
use Rattle.record_body.proofs.Common.{◌≡◌, ◌+◌, [], ◌++◌, nat_le, if◌then◌else◌, refl, ap, sym, ◌∙◌, arith, exit_err}
use Rattle.record_body.proofs.Common.{all_diff_widths, diff_size, diff_widths, mark_at}
use Rattle.record_body.proofs.{Measured.rest_known, Measured.sum_diff, Reaching.next_past, Reaching.next_fits}
use Rattle.record_body.proofs.changes_measuring.fit_all_diff.Goals as goal

pub returns-in_err-end : goal.returns-in_err-end
returns-in_err-end c =
    let bytes = c.args.bytes.now in
    let at = c.loop.end in
    rw (exit_err c.from_residual.result c.from_residual.ensures.1)
    (next_past _ (diff_widths at bytes) _ _ _ _
    (λ n. if nat_le (mark_at at bytes) 2 then all_diff_widths n (at + diff_size at bytes) bytes else []) _ _
    (omega (arith, c.loop-test.true)) (λ n. refl) c.loop.invariant c.in_err-end.ensures)

pub loop-preserved : goal.loop-preserved
loop-preserved c =
    let bytes = c.args.bytes.now in
    let at = c.loop.end in
    let known = c.if-bytes-from-gt2.false in
    let end : at + diff_size at bytes ≡ c.in_ok-end.end =
    ap (λ n. at + n) (sym (sum_diff at bytes known)) ∙ sym c.in_ok-end.ensures.0 in
    next_fits _ (diff_widths at bytes) _ _ _ _ _ _ _ (omega (arith, c.loop-test.true)) (omega arith)
    (λ n. rest_known n at bytes known ∙ ap (λ a. diff_widths at bytes ++ all_diff_widths n a bytes) end)
    c.loop.invariant c.in_ok-end.ensures
