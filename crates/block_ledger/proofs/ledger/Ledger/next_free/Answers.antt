-- The leaves from the place of the id on.
use Rattle.std.proofs.Common.{◌≡◌, ◌≤◌, ℕ, Some, sym, subst}
use Rattle.std.specs.Prelude.{IfSome, IfNone}
use Rattle.block_ledger.specs.{Counts.IsNextFree, Entries.IsFrom, Entries.LedgerState, Entries.count_of}
use Rattle.block_ledger.proofs.Nexts.{next_found, next_none}
use Rattle.block_ledger.proofs.ledger.Ledger.next_free.Goals as goal

pub returns-clause-found : goal.returns-clause-found
returns-clause-found c =
    let all = c.self.invariant in
    let place = c.place_from.result in
    subst (λ (k : LedgerState). IfSome c.least_from.result (IsNextFree (count_of k) c.args.from)) c.self.view_is
    (next_found c.self.inside.entries.items c.self.inside.free c.args.from place all.rising all.few all.leaves
    (subst (λ (k : LedgerState). IsFrom k.entries c.args.from place) (sym c.self.view_is) c.place_from.ensures)
    c.least_from.result c.least_from.ensures.found c.least_from.ensures.least)

pub returns-clause-none : goal.returns-clause-none
returns-clause-none c =
    let all = c.self.invariant in
    let place = c.place_from.result in
    subst (λ (k : LedgerState). IfNone c.least_from.result ((id : ℕ) → c.args.from ≤ id → count_of k id ≡ Some 0 → ⊥))
    c.self.view_is
    (next_none c.self.inside.entries.items c.self.inside.free c.args.from place all.rising all.few all.leaves
    (subst (λ (k : LedgerState). IsFrom k.entries c.args.from place) (sym c.self.view_is) c.place_from.ensures)
    c.least_from.result c.least_from.ensures.least)
