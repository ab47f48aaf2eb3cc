-- At the place of the id.
use Rattle.block_ledger.proofs.Nexts.{from_at}
use Rattle.block_ledger.proofs.ledger.Ledger.place_from.Goals as goal

pub returns-in-Ok : goal.returns-in-Ok
returns-in-Ok c = from_at c.args.self.now.entries c.args.from c.in-Ok.place c.position.ensures.rising c.in-Ok.ensures.found
