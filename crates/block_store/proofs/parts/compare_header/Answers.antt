-- A block of the disk has its header.
use Rattle.std.proofs.Common.{arith}
use Rattle.block_store.proofs.FaultLaws.{valid_result}
use Rattle.block_store.proofs.parts.compare_header.Goals as goal

pub returns-clause-valid : goal.returns-clause-valid
returns-clause-valid g c = λ xs told block len.
    valid_result c.read_header.result
    (g.S.Store.reads c.args.store.now) c.args.block.id c.args.block.len 16 xs block len
    (omega arith) (c.read_header.ensures.damaged told)
