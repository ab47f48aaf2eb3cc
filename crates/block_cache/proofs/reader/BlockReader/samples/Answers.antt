-- A fault of the file is one of the block.
use Rattle.block_cache.proofs.Common.{◌+◌, ◌-◌, ◌*◌, arith, length, page_end}
use Rattle.block_cache.proofs.ReaderLaws.{read_through}
use Rattle.block_cache.proofs.reader.BlockReader.samples.Goals as goal

pub returns-clause-reads : goal.returns-clause-reads
returns-clause-reads g c =
    read_through c.args.block (16 + 2 * page_end 4096 c.args.block.len (c.args.from + length c.args.out.now - 1)) _ _ _
    (omega arith) c.read_samples_cached.ensures.kept
    c.read_samples_cached.ensures.faults c.read_samples_cached.ensures.cache c.read_samples_cached.ensures.damaged
