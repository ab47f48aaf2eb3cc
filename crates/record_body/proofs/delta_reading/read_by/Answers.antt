-- The tests of the length and the kind passed.
use Rattle.record_body.proofs.Common.{◌∷◌, [], commit_test, delta_length_test, delta_kind_test, all_pass}
use Rattle.record_body.proofs.{DeltaBodies.finds_edit, Measured.delta_size}
use Rattle.record_body.proofs.delta_reading.read_by.Goals as goal

pub read_edit_by-requires : goal.read_edit_by-requires
read_edit_by-requires c =
    let bytes = c.args.bytes.now in
    let pass = all_pass (delta_length_test c.args.before bytes ∷ delta_kind_test c.args.before bytes
    ∷ commit_test c.args.before ∷ []) c.in_ok-test_delta_outside.ensures.0 in
    let size = delta_size bytes c.in-5.is pass.0 in
    record { long = size.0; within = size.1; half_full = c.requires }

pub returns-in-5 : goal.returns-in-5
returns-in-5 c = finds_edit c.args.m c.args.before c.args.current.now c.args.bytes.now c.read_edit_by.result c.in-5.is
    c.in_ok-test_delta_outside.ensures.0 c.read_edit_by.ensures
