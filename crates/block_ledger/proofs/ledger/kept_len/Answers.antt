use Rattle.std.proofs.Common.{arith}
use Rattle.block_ledger.specs.Entries.{is_kept}
use Rattle.block_ledger.proofs.Listed.{passed_most}
use Rattle.block_ledger.proofs.ledger.kept_len.Goals as goal

pub overflow_add-len : goal.overflow_add-len
overflow_add-len c = omega (
  arith,
  c.loop-entry.invariant,
  passed_most is_kept c.args.entries.now c.loop-entry.entry-index,
  c.loop-entry-test.true,
  c.requires,
)

pub returns-clause-most : goal.returns-clause-most
returns-clause-most c = omega (
  arith,
  c.loop-entry.invariant,
  passed_most is_kept c.args.entries.now c.loop-entry.entry-index,
  c.loop-entry.auto.entry-index-end,
)
