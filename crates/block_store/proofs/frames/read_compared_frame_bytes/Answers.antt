-- A block of the disk has all bytes of its frames.
use Rattle.std.proofs.Common.{◌+◌, ◌*◌, length}
use Rattle.block_store.specs.Reads.{level_place}
use Rattle.block_store.proofs.FaultLaws.{early_result, valid_result}
use Rattle.block_store.proofs.FrameLaws.{bytes_within}
use Rattle.block_store.proofs.frames.read_compared_frame_bytes.Goals as goal

pub returns-clause-valid : goal.returns-clause-valid
returns-clause-valid g c = λ xs told block len.
    valid_result c.read_bytes.result (g.S.Store.reads c.args.store.now) c.args.block.id c.args.block.len
    (level_place c.args.level c.args.block.len + 12 * c.args.from + length c.args.out.now) xs block len
    (bytes_within c.args.level c.args.block.len c.args.from (length c.args.out.now) c.requires.within)
    (early_result c.read_bytes.result _ _ _ _ (c.requires.compared told) (c.read_bytes.ensures.damaged told))

pub returns-clause-damaged : goal.returns-clause-damaged
returns-clause-damaged g c = λ told.
    early_result c.read_bytes.result _ _ _ _ (c.requires.compared told) (c.read_bytes.ensures.damaged told)
