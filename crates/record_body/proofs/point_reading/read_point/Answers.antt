-- What the bytes say is valid, and they are its spelling.
use Rattle.record_body.proofs.Common.{arith}
use Rattle.record_body.proofs.HeaderPoints.{point_found}
use Rattle.record_body.proofs.point_reading.read_point.Goals as goal

pub returns : goal.returns
returns c = point_found c.args.m c.args.before c.args.bytes.now
    (record { below = λ i. omega (arith, c.type_inv.bytes i) }) c.read_point_whole.result c.read_point_whole.ensures
