-- The length, and then the fields.
use Rattle.record_body.proofs.Common.{◌∷◌, [], arith, point_length_test, all_pass}
use Rattle.record_body.proofs.HeaderPoints.{point_size}
use Rattle.record_body.proofs.point_reading.read_point_whole.Goals as goal

pub read_point_fields-requires : goal.read_point_fields-requires
read_point_fields-requires c =
    let bytes = c.args.bytes.now in
    let pass = all_pass (point_length_test c.args.before bytes ∷ []) c.in_ok-test_point_len.ensures.0 in
    record { within = omega (arith, point_size bytes pass.0) }
