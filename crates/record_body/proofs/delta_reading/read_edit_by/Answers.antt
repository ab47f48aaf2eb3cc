-- The fields in front, and the tracks.
use Rattle.record_body.proofs.Common.{exit_err, List, ap₂, arith}
use Rattle.record_body.proofs.Common.{all_diff_tests, head_tests, AreDiff, ReadsEdit, Track}
use Rattle.record_body.proofs.Common.{none_first, some_first}
use Rattle.record_body.proofs.{ValidBodies.few_told, Steps.finds_after}
use Rattle.record_body.proofs.delta_reading.read_edit_by.Goals as goal

pub returns-in_err-limits : goal.returns-in_err-limits
returns-in_err-limits c = search (arith, c.from_residual.ensures.1, c.in_err-limits.ensures, some_first)

pub read_all_diff-requires-clause-few : goal.read_all_diff-requires-clause-few
read_all_diff-requires-clause-few c =
    omega (arith, c.u32_at.ensures, few_told c.args.before c.args.bytes.now c.in_ok-limits.ensures.0)

pub returns-in_err-point : goal.returns-in_err-point
returns-in_err-point c =
    let bytes = c.args.bytes.now in
    let now = c.args.current.now in
    let found : List Track → Type 0 = λ x. AreDiff now c.u32_at.result 29 bytes x in
    rw (exit_err c.from_residual-in_err-point.result c.from_residual-in_err-point.ensures.1)
    (finds_after found (ReadsEdit now bytes) (head_tests c.args.before bytes) _ _ c.in_err-point.field-0.0
    c.in_ok-limits.ensures.0 (ap₂ (λ l n. all_diff_tests l now n 0 29 bytes) c.in_ok-limits.ensures.1 c.u32_at.ensures)
    c.in_err-point.ensures)

pub returns : goal.returns
returns c =
    search (
      arith,
      c.in_ok-limits.ensures.1,
      c.in_ok-point.ensures.1,
      c.in_ok-limits.ensures.0,
      c.u32_at.ensures,
      c.in_ok-point.ensures.0,
      c.u64_at.ensures,
      none_first,
    )
