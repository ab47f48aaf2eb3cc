-- The law of the lemmas.
use Rattle.record_body.proofs.{DeltaBack.delta_read_back, DiffBack.are_short}
use Rattle.record_body.proofs.laws.what_is_written_is_read.Goals as goal

pub returns : goal.returns
returns c = λ m before current body large small room short valid.
    let back = delta_read_back m before current body large small room (are_short current short) valid in
    (back.tests, back.says)
