-- Both parts lie within the buffer.
use Rattle.std.proofs.Common.{arith}
use Rattle.folder_examples.proofs.parts_tests.reads_few.Goals as goal

pub read_parts-both-requires : goal.read_parts-both-requires
read_parts-both-requires g c =
    let one = c.part.ensures in
    let other = c.part-2.ensures in
    (omega arith, grind (arith, one), (grind (arith, one, other), grind (arith, other), grind (arith, other)))
