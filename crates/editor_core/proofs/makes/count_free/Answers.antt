-- An id that is not there is held and dropped.
use Rattle.editor_core.proofs.Common.{◌≡◌, ◌+◌, ◌-◌, ℕ, Option, Some, None, subst}
use Rattle.block_ledger.specs.Counts.{SetsCount, occurrences, one_less, one_more}
use Rattle.row_ledger.specs.Lists.{counts_of}
use Rattle.editor_blocks.proofs.BlockCounts.{free_one}
use Rattle.editor_core.proofs.makes.count_free.Goals as goal

more : (o : Option ℕ) → o ≡ None → occurrences o + 1 ≡ one_more o
more None is = cc
more (Some n) is = cc

less : (o : Option ℕ) → occurrences o - 1 ≡ one_less o
less None = cc
less (Some n) = cc

pub returns-clause-counts : goal.returns-clause-counts
returns-clause-counts c =
    let old = counts_of c.args.ledger.now in
    let mid = counts_of c.hold.new.self in
    let new = counts_of c.drop_one.new.self in
    free_one old mid new c.args.id c.requires.fresh
    (subst (λ (n : ℕ). SetsCount old mid c.args.id (Some n)) (more (old c.args.id) c.requires.fresh)
    c.hold.ensures.counts)
    (subst (λ (n : ℕ). SetsCount mid new c.args.id (Some n)) (less (mid c.args.id)) c.drop_one.ensures.counts)
