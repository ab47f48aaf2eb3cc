-- The ledger makes room, and its counts stay.
use Rattle.std.proofs.Common.{◌≡◌, ◌<◌, ◌≤◌, ℕ, ap, subst}
use Rattle.std.specs.Prelude.{OnOk, OnErr}
use Rattle.block_ledger.specs.Entries.{FollowsIds, places}
use Rattle.row_ledger.specs.Rows.{TableState, counts, singles}
use Rattle.row_ledger.proofs.Singles.{over, same_table, same_count, same_singles}
use Rattle.row_ledger.proofs.table.RowTable.reserve.Goals as goal

pub invariant_of-self : goal.invariant_of-self
invariant_of-self c =
    let t : TableState = record { ledger = c.self.inside.ledger; rows = c.self.inside.rows.items } in
    same_table t c.reserve.new.self c.self.invariant c.reserve.ensures.counts

pub returns-clause-counts : goal.returns-clause-counts
returns-clause-counts c =
    let t : TableState = record { ledger = c.self.inside.ledger; rows = c.self.inside.rows.items } in
    subst (λ (s : TableState). (id : ℕ) → counts (over c.reserve.new.self t.rows) id ≡ counts s id) c.self.view_is
    (λ id. same_count t c.reserve.new.self id (c.reserve.ensures.counts id))

pub returns-clause-singles : goal.returns-clause-singles
returns-clause-singles c =
    let t : TableState = record { ledger = c.self.inside.ledger; rows = c.self.inside.rows.items } in
    subst (λ (s : TableState). (id : ℕ) → singles (over c.reserve.new.self t.rows) id ≡ singles s id) c.self.view_is
    (λ id. same_singles t c.reserve.new.self id (c.reserve.ensures.counts id))

pub returns-clause-rows : goal.returns-clause-rows
returns-clause-rows c = ap (λ (s : TableState). s.rows) c.self.view_is

pub returns-clause-full : goal.returns-clause-full
returns-clause-full c = subst (λ (s : TableState). OnErr c.reserve.result (s.ledger.spare < c.args.count))
    c.self.view_is c.reserve.ensures.full

pub returns-clause-spare : goal.returns-clause-spare
returns-clause-spare c =
    subst (λ (s : TableState). s.ledger.spare ≤ c.reserve.new.self.spare) c.self.view_is c.reserve.ensures.spare

pub returns-clause-places : goal.returns-clause-places
returns-clause-places c = subst (λ (s : TableState). OnOk c.reserve.result
    (s.ledger.spare < c.args.count → FollowsIds c.args.count c.reserve.new.self)) c.self.view_is
    c.reserve.ensures.places

pub returns-clause-enough : goal.returns-clause-enough
returns-clause-enough c = subst (λ (s : TableState). c.args.count ≤ s.ledger.spare
    → places c.reserve.new.self ≡ places s.ledger) c.self.view_is c.reserve.ensures.enough

pub returns-clause-same : goal.returns-clause-same
returns-clause-same c = subst (λ (s : TableState). OnErr c.reserve.result
    (places c.reserve.new.self ≡ places s.ledger)) c.self.view_is c.reserve.ensures.same
