-- At the place of the id, which is there.
use Rattle.std.proofs.Common.{◌∙◌, Some, ap, subst, ℕ, Option}
use Rattle.block_ledger.specs.{Counts.IsNamed, Counts.one_less, Entries.count_of}
use Rattle.block_ledger.proofs.{Lookups.absent_gap, Lookups.read_count, Lookups.put_count, Times.fresh_less}
use Rattle.block_ledger.proofs.ledger.Ledger.drop_one.Goals as goal

pub returns-in-Ok-clause-counts : goal.returns-in-Ok-clause-counts
returns-in-Ok-clause-counts c =
    let entries = c.args.self.now.entries in
    let here = c.in-Ok.ensures.found in
    let rising = c.position.ensures.rising in
    let read = c.lowered.ensures ∙ ap (λ (o : Option ℕ). Some (one_less o))
    (read_count entries c.args.id c.in-Ok.i c.count_at.result rising here c.count_at.ensures) in
    put_count entries c.set_count.new.self.entries c.args.id c.in-Ok.i _ rising here
    (rw read at c.set_count.ensures.entries)

pub returns-in_default-clause-counts : goal.returns-in_default-clause-counts
returns-in_default-clause-counts c = absurd (subst IsNamed
    (absent_gap c.args.self.now.entries c.args.id c.in_default.field-0 c.in_default.ensures.absent) c.requires)

pub returns-in-Ok-clause-fresh : goal.returns-in-Ok-clause-fresh
returns-in-Ok-clause-fresh c = λ ids fresh.
    fresh_less ids (count_of c.args.self.now) (count_of c.set_count.new.self) c.args.id
    (returns-in-Ok-clause-counts c) fresh

pub returns-in_default-clause-fresh : goal.returns-in_default-clause-fresh
returns-in_default-clause-fresh c = absurd (subst IsNamed
    (absent_gap c.args.self.now.entries c.args.id c.in_default.field-0 c.in_default.ensures.absent) c.requires)
