-- The fields in front, and the tracks.
use Rattle.record_body.proofs.Common.{◌≡◌, List, ap₂, arith, exit_err, tracks_at, edit_at, head_tests}
use Rattle.record_body.proofs.Common.{tracks_tests, Body, Track, some_first}
use Rattle.record_body.proofs.{ValidBodies.few_told, Steps.finds_after}
use Rattle.record_body.proofs.reading.read_edit.Goals as goal

pub returns-in_err-limits : goal.returns-in_err-limits
returns-in_err-limits c = search (arith, c.from_residual.ensures.1, c.in_err-limits.ensures, some_first)

pub read_tracks-requires-clause-few : goal.read_tracks-requires-clause-few
read_tracks-requires-clause-few c =
    omega (arith, c.u32_at.ensures, few_told c.args.before c.args.bytes.now c.in_ok-limits.ensures.0)

pub returns-in_err-point : goal.returns-in_err-point
returns-in_err-point c =
    let found : List Track → Type 0 = λ x. x ≡ tracks_at c.u32_at.result 29 c.args.bytes.now in
    let body : Body → Type 0 = λ x. x ≡ edit_at c.args.bytes.now in
    rw (exit_err c.from_residual-in_err-point.result c.from_residual-in_err-point.ensures.1)
    (finds_after found body (head_tests c.args.before c.args.bytes.now) _ _ c.in_err-point.field-0.0 c.in_ok-limits.ensures.0
    (ap₂ (λ l n. tracks_tests l n 0 29 c.args.bytes.now) c.in_ok-limits.ensures.1 c.u32_at.ensures) c.in_err-point.ensures)
