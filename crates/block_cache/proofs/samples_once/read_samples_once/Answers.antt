-- What stands in the file of a block of the disk are its samples, and it has no fault.
use Rattle.block_cache.proofs.Common.{◌+◌, ◌*◌, ◌≤◌, arith, length, size_of, valid_result}
use Rattle.block_cache.proofs.samples_once.read_samples_once.Goals as goal

pub returns-clause-valid : goal.returns-clause-valid
returns-clause-valid g c = λ xs told block len.
    let within : 16 + 2 * (c.args.from + length c.args.out.now) ≤ size_of c.args.block.len =
    omega (arith, c.requires.within) in
    valid_result c.read_parts.result (g.S.Store.reads c.args.store.now) c.args.block.id c.args.block.len
    _ xs block len within (c.read_parts.ensures.damaged told)
