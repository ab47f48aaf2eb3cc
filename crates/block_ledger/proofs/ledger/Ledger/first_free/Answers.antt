-- The root of the tree.
use Rattle.std.proofs.Common.{◌≡◌, ℕ, Some, subst}
use Rattle.std.specs.Prelude.{IfSome, IfNone}
use Rattle.block_ledger.specs.{Counts.IsFirstFree, Entries.LedgerState, Entries.count_of}
use Rattle.block_ledger.proofs.Leaves.{first_found, none_found}
use Rattle.block_ledger.proofs.ledger.Ledger.first_free.Goals as goal

pub returns-clause-found : goal.returns-clause-found
returns-clause-found c =
    let all = c.self.invariant in
    subst (λ (k : LedgerState). IfSome c.least.result (IsFirstFree (count_of k))) c.self.view_is
    (first_found c.self.inside.entries.items c.self.inside.free c.least.result all.rising all.few all.leaves
    c.least.ensures.found c.least.ensures.least)

pub returns-clause-none : goal.returns-clause-none
returns-clause-none c =
    let all = c.self.invariant in
    subst (λ (k : LedgerState). IfNone c.least.result ((id : ℕ) → count_of k id ≡ Some 0 → ⊥)) c.self.view_is
    (none_found c.self.inside.entries.items c.self.inside.free c.least.result all.few all.leaves c.least.ensures.least)
