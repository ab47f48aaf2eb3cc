-- The page has as many frames as its run.
use Rattle.block_cache.proofs.Common.{ap, arith, length}
use Rattle.block_cache.proofs.RunLaws.{length_run}
use Rattle.block_cache.proofs.frame_page.FramePage.join.Goals as goal

pub join_run-requires-clause-there : goal.join_run-requires-clause-there
join_run-requires-clause-there c =
    let p = c.self.inside in
    let r = p.run in
    omega (arith, c.requires, ap length c.self.view_is, length_run p.bytes.items r.level r.block.len r.from r.count)
