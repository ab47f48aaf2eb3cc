use Rattle.record_body.proofs.Common.{◌∷◌, [], arith, length_test, kind_test, all_pass}
use Rattle.record_body.proofs.Reaching.{edit_size}
use Rattle.record_body.proofs.reading.read_fields.Goals as goal

pub read_edit-requires : goal.read_edit-requires
read_edit-requires c =
    let bytes = c.args.bytes.now in
    let pass = all_pass
    (length_test c.args.before bytes ∷ kind_test c.args.before bytes ∷ []) c.in_ok-test_outside.ensures.0 in
    record { within = omega (arith, edit_size bytes c.in-1.is pass.0) }
