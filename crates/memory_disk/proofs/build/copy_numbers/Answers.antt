-- The keys rise.
use Rattle.memory_disk.proofs.Common.{◌≡◌, rules}
use Rattle.memory_disk.proofs.Names.{keys_rise}
use Rattle.memory_disk.proofs.build.copy_numbers.Goals as goal

pub returns-clause-rising : goal.returns-clause-rising
returns-clause-rising c =
    let is : c.loop-file.out.items ≡ c.args.there.now.keys = search rules in
    keys_rise _ _ is c.iter-file-items.ensures.ordered
