-- At the place of the id, or nowhere.
use Rattle.block_ledger.proofs.Lookups.{read_count, read_none}
use Rattle.block_ledger.proofs.ledger.Ledger.count.Goals as goal

pub returns-in-Ok : goal.returns-in-Ok
returns-in-Ok c = read_count c.args.self.now.entries c.args.id c.in-Ok.i c.count_at.result c.position.ensures.rising
    c.in-Ok.ensures.found c.count_at.ensures

pub returns-in-Err : goal.returns-in-Err
returns-in-Err c = read_none c.args.self.now.entries c.args.id c.in-Err.field-0 c.in-Err.ensures.absent
