-- The file is of no entry that is left.
use Rattle.block_cache.proofs.CacheLaws.{right_without}
use Rattle.block_cache.proofs.drops.remove_block_cached.Goals as goal

pub returns-clause-right : goal.returns-clause-right
returns-clause-right g c = λ told right.
    right_without _ _ c.args.id c.args.cache.now c.drop_entries.new.self c.drop_entries.ensures
    (c.remove_block.ensures.changed.reads told).others right
