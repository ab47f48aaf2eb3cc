-- The part lies within the buffer.
use Rattle.std.proofs.Common.{arith}
use Rattle.folder_examples.proofs.parts_tests.answers.Goals as goal

pub read_parts-requires : goal.read_parts-requires
read_parts-requires g c =
    (omega arith, grind (arith, c, c.part.ensures), grind (arith, c, c.part.ensures))
