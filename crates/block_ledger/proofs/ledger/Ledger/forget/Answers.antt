-- At the place of the id, which is there.
use Rattle.block_ledger.proofs.{Lookups.absent_gap, Lookups.put_count, Lookups.no_zero, Times.fresh_gone}
use Rattle.block_ledger.specs.Entries.{count_of}
use Rattle.block_ledger.proofs.ledger.Ledger.forget.Goals as goal

pub returns-in-Ok-clause-counts : goal.returns-in-Ok-clause-counts
returns-in-Ok-clause-counts c = put_count c.args.self.now.entries c.set_count.new.self.entries c.args.id c.in-Ok.i _
    c.position.ensures.rising c.in-Ok.ensures.found c.set_count.ensures.entries

pub returns-in_default-clause-counts : goal.returns-in_default-clause-counts
returns-in_default-clause-counts c = absurd (no_zero _
    (absent_gap c.args.self.now.entries c.args.id c.in_default.field-0 c.in_default.ensures.absent) c.requires)

pub returns-in-Ok-clause-fresh : goal.returns-in-Ok-clause-fresh
returns-in-Ok-clause-fresh c = λ ids fresh.
    fresh_gone ids (count_of c.args.self.now) (count_of c.set_count.new.self) c.args.id c.requires
    (returns-in-Ok-clause-counts c) fresh
