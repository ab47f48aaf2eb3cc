-- What stands in the file of a block of the disk are its samples, and it has no fault.
use Rattle.block_cache.proofs.Common.{◌+◌, ◌-◌, ◌*◌, ◌≤◌, arith, length, size_of, valid_result, page_end}
use Rattle.block_cache.proofs.samples.read_samples_cached.Goals as goal

pub returns-clause-valid : goal.returns-clause-valid
returns-clause-valid g c = λ xs told block len.
    let within : 16 + 2 * page_end 4096 c.args.block.len (c.args.from + length c.args.out.now - 1) ≤ size_of
    c.args.block.len = omega arith in
    valid_result c.read_pages.result (g.S.Store.reads c.args.store.now) c.args.block.id c.args.block.len
    _ xs block len within (c.read_pages.ensures.damaged told)
