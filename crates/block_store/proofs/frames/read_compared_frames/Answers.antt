-- What stands in the file of a block of the disk are the summaries of its stretches.
use Rattle.std.proofs.Common.{ℕ, ◌+◌, ◌*◌, arith, length}
use Rattle.sample_block.specs.Spelling.{size_of}
use Rattle.block_store.specs.Reads.{end_of, level_place}
use Rattle.block_store.proofs.FaultLaws.{early_result, end_most, valid_result}
use Rattle.block_store.proofs.FrameLaws.{frames_result, frames_within}
use Rattle.block_store.proofs.frames.read_compared_frames.Goals as goal

pub returns-clause-read : goal.returns-clause-read
returns-clause-read g c = λ xs told block len.
    frames_result c.read_buffers.result
    (g.S.Store.reads c.args.store.now) c.args.level c.args.block.id c.args.block.len c.args.from
    (length c.args.out.now) xs c.read_buffers.new.out block len c.requires.within (c.read_buffers.ensures.frames told)

pub returns-clause-valid : goal.returns-clause-valid
returns-clause-valid g c = λ xs told block len.
    let place : ℕ = level_place c.args.level c.args.block.len + 12 * (c.args.from + length c.args.out.now) in
    valid_result c.read_buffers.result (g.S.Store.reads c.args.store.now) c.args.block.id c.args.block.len
    (end_of (length c.args.out.now) place) xs block len
    (end_most (length c.args.out.now) place (size_of c.args.block.len) (omega arith)
    (frames_within c.args.level c.args.block.len c.args.from (length c.args.out.now) c.requires.within))
    (early_result c.read_buffers.result _ _ _ _ (c.requires.compared told) (c.read_buffers.ensures.damaged told))

pub returns-clause-damaged : goal.returns-clause-damaged
returns-clause-damaged g c = λ told.
    early_result c.read_buffers.result _ _ _ _ (c.requires.compared told) (c.read_buffers.ensures.damaged told)
