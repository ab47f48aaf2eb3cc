-- Ok is for a block of the disk, and for such a block nothing but the disk refuses.
use Rattle.block_store.proofs.CheckLaws.{whole_result, valid_check}
use Rattle.block_store.proofs.checks.check_block.Goals as goal

pub returns-clause-whole : goal.returns-clause-whole
returns-clause-whole g c = λ told. whole_result c.check_file.result (g.S.Store.reads c.args.store.now) c.args.block.id
    c.args.block.len c.requires.block (c.check_file.ensures.spelled told)

pub returns-clause-valid : goal.returns-clause-valid
returns-clause-valid g c = λ told whole. valid_check c.check_file.result
    (g.S.Store.reads c.args.store.now) c.args.block.id c.args.block.len whole (c.check_file.ensures.checked told)
