-- What stands in the file of a block of the disk are its samples.
use Rattle.std.proofs.Common.{ℕ, ◌+◌, ◌*◌, arith, length}
use Rattle.sample_block.specs.Spelling.{size_of}
use Rattle.block_store.specs.Reads.{end_of}
use Rattle.block_store.proofs.FaultLaws.{early_result, end_most, valid_result, read_result}
use Rattle.block_store.proofs.reads.read_compared_samples.Goals as goal

pub returns-then-out-le-FEW-clause-read : goal.returns-then-out-le-FEW-clause-read
returns-then-out-le-FEW-clause-read g c = λ xs told block len.
    read_result c.read_few.result (g.S.Store.reads c.args.store.now) c.args.block.id c.args.block.len c.args.from
    (length c.args.out.now) xs c.read_few.new.out block len (omega arith) (c.read_few.ensures.samples told)

pub returns-then-out-le-FEW-clause-valid : goal.returns-then-out-le-FEW-clause-valid
returns-then-out-le-FEW-clause-valid g c = λ xs told block len.
    let place : ℕ = 16 + 2 * (c.args.from + length c.args.out.now) in
    let few = c.requires.within in
    valid_result c.read_few.result (g.S.Store.reads c.args.store.now) c.args.block.id c.args.block.len
    (end_of (length c.args.out.now) place) xs block len
    (end_most (length c.args.out.now) place (size_of c.args.block.len) (omega arith) (omega (arith, few)))
    (early_result c.read_few.result _ _ _ _ (c.requires.compared told) (c.read_few.ensures.damaged told))

pub returns-then-out-lt-MANY-clause-read : goal.returns-then-out-lt-MANY-clause-read
returns-then-out-lt-MANY-clause-read g c = λ xs told block len.
    read_result c.read_some.result (g.S.Store.reads c.args.store.now) c.args.block.id c.args.block.len c.args.from
    (length c.args.out.now) xs c.read_some.new.out block len (omega arith) (c.read_some.ensures.samples told)

pub returns-then-out-lt-MANY-clause-valid : goal.returns-then-out-lt-MANY-clause-valid
returns-then-out-lt-MANY-clause-valid g c = λ xs told block len.
    let place : ℕ = 16 + 2 * (c.args.from + length c.args.out.now) in
    let few = c.requires.within in
    valid_result c.read_some.result (g.S.Store.reads c.args.store.now) c.args.block.id c.args.block.len
    (end_of (length c.args.out.now) place) xs block len
    (end_most (length c.args.out.now) place (size_of c.args.block.len) (omega arith) (omega (arith, few)))
    (early_result c.read_some.result _ _ _ _ (c.requires.compared told) (c.read_some.ensures.damaged told))

pub returns-then-out-lt-MANY-clause-damaged : goal.returns-then-out-lt-MANY-clause-damaged
returns-then-out-lt-MANY-clause-damaged g c = λ told.
    early_result c.read_some.result _ _ _ _ (c.requires.compared told) (c.read_some.ensures.damaged told)

pub returns-clause-read : goal.returns-clause-read
returns-clause-read g c = λ xs told block len.
    read_result c.read_many.result (g.S.Store.reads c.args.store.now) c.args.block.id c.args.block.len c.args.from
    (length c.args.out.now) xs c.read_many.new.out block len (omega arith) (c.read_many.ensures.samples told)

pub returns-clause-valid : goal.returns-clause-valid
returns-clause-valid g c = λ xs told block len.
    let place : ℕ = 16 + 2 * (c.args.from + length c.args.out.now) in
    let few = c.requires.within in
    valid_result c.read_many.result (g.S.Store.reads c.args.store.now) c.args.block.id c.args.block.len
    (end_of (length c.args.out.now) place) xs block len
    (end_most (length c.args.out.now) place (size_of c.args.block.len) (omega arith) (omega (arith, few)))
    (early_result c.read_many.result _ _ _ _ (c.requires.compared told) (c.read_many.ensures.damaged told))

pub returns-clause-damaged : goal.returns-clause-damaged
returns-clause-damaged g c = λ told.
    early_result c.read_many.result _ _ _ _ (c.requires.compared told) (c.read_many.ensures.damaged told)
