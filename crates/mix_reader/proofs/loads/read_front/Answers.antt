-- What is written stands in front.
use Rattle.mix_reader.proofs.Common.{arith, length-take}
use Rattle.mix_reader.proofs.loads.read_front.Goals as goal

pub read_heard-requires-clause-room : goal.read_heard-requires-clause-room
read_heard-requires-clause-room g c =
    omega (arith, length-take c.args.room c.args.samples.now, c.requires.room, c.requires.within)
