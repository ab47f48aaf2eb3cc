-- The fields in front, and the tracks.
use Rattle.record_body.proofs.Common.{arith, point_head_tests}
use Rattle.record_body.proofs.Common.{all_pass, some_first}
use Rattle.record_body.proofs.{HeaderPoints.few_point, Steps.finds_after}
use Rattle.record_body.proofs.point_reading.read_point_fields.Goals as goal

pub returns-in_err-test_point_head : goal.returns-in_err-test_point_head
returns-in_err-test_point_head c =
    search (arith, c.from_residual.ensures.1, c.in_err-test_point_head.ensures, some_first)

pub read_tracks-requires-clause-few : goal.read_tracks-requires-clause-few
read_tracks-requires-clause-few c =
    let pass = all_pass (point_head_tests c.args.before c.args.bytes.now) c.in_ok-test_point_head.ensures.0 in
    omega (arith, c.u32_at.ensures, few_point c.args.before c.args.bytes.now pass)

pub returns-in_err-tracks : goal.returns-in_err-tracks
returns-in_err-tracks c =
    search (
      arith,
      c.from_residual-in_err-tracks.ensures.1,
      c.in_ok-test_point_head.ensures.0,
      c.u32_at.ensures,
      c.in_err-tracks.ensures,
      finds_after,
    )
