-- A fault of the file is one of the block.
use Rattle.block_cache.proofs.Common.{◌+◌, ◌-◌, false, ℕ, arith, length, frame_count, frame_len, frames_within}
use Rattle.block_cache.proofs.Common.{frames_end, page_end}
use Rattle.block_cache.proofs.ReaderLaws.{read_through}
use Rattle.block_cache.proofs.reader.BlockReader.frames.Goals as goal

pub returns-clause-reads : goal.returns-clause-reads
returns-clause-reads g c =
    let b = c.args.block in
    let n : ℕ = c.args.from + length c.args.out.now in
    let end : ℕ = page_end 256 (frame_count (frame_len c.args.level) b.len) (n - 1) in
    let within = frames_within c.args.level b.len 0 end (omega arith) in
    read_through b (frames_end false c.args.level b n) _ _ _ (omega (arith, within)) c.read_frames_cached.ensures.kept
    c.read_frames_cached.ensures.faults c.read_frames_cached.ensures.cache c.read_frames_cached.ensures.damaged
