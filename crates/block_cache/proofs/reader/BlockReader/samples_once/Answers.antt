-- A fault of the file is one of the block.
use Rattle.block_cache.proofs.Common.{◌+◌, ◌*◌, arith, length}
use Rattle.block_cache.proofs.ReaderLaws.{read_through}
use Rattle.block_cache.proofs.reader.BlockReader.samples_once.Goals as goal

pub returns-clause-reads : goal.returns-clause-reads
returns-clause-reads g c =
    read_through c.args.block (16 + 2 * (c.args.from + length c.args.out.now)) _ _ _ (omega (arith, c.requires.within))
    c.read_samples_once.ensures.kept
    c.read_samples_once.ensures.faults c.read_samples_once.ensures.cache c.read_samples_once.ensures.damaged
