-- A fault of the file is one of the block.
use Rattle.block_cache.proofs.Common.{◌+◌, true, length, frames_within, frames_end}
use Rattle.block_cache.proofs.ReaderLaws.{read_through}
use Rattle.block_cache.proofs.reader.BlockReader.frames_once.Goals as goal

pub returns-clause-reads : goal.returns-clause-reads
returns-clause-reads g c =
    let n = length c.args.out.now in
    read_through c.args.block (frames_end true c.args.level c.args.block (c.args.from + n)) _ _ _
    (frames_within c.args.level c.args.block.len c.args.from n c.requires.within) c.read_frames_once.ensures.kept
    c.read_frames_once.ensures.faults c.read_frames_once.ensures.cache c.read_frames_once.ensures.damaged
