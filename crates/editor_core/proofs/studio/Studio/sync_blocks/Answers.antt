-- One sync after another.
use Rattle.editor_core.proofs.Common.{◌≡◌, ℕ, Some, refl, subst, arith, core_of, ids_from, Synced}
use Rattle.editor_blocks.proofs.BlocksWritten.{synced_none, synced_more, unsynced_here}
use Rattle.editor_core.proofs.studio.Studio.sync_blocks.Goals as goal

pub rows-init : goal.rows-init
rows-init g c = record {
  synced = synced_none g.S.Store (core_of c.args.self.now) c.args.first (g.met.S.Store.may_fewer _);
  history = refl;
  body = refl;
  row = refl;
  uses = refl;
}

pub rows-preserved : goal.rows-preserved
rows-preserved g c =
    let mid = core_of c.rows.self in
    let store = c.sync.new.self.store in
    let new = record mid { store = store; cache = c.sync.new.self.cache } in
    let calls = c.sync.ensures in
    let done = c.in_default.ensures in record {
      synced = synced_more g.S.Store (core_of c.args.self.now) c.args.first c.rows.i mid new c.rows.invariant.synced
          (λ i. record mid { store = store; cache = calls.cache i }) calls.reads done.durable calls.changed
          calls.read_faults done.faults.kept;
      history = c.rows.invariant.history;
      body = c.rows.invariant.body;
      row = c.rows.invariant.row;
      uses = c.rows.invariant.uses;
    }

pub returns-in-Err-clause-synced : goal.returns-in-Err-clause-synced
returns-in-Err-clause-synced g c =
    let mid = core_of c.rows.self in
    let store = c.sync.new.self.store in
    let cache = c.sync.new.self.cache in
    let new = record mid { store = store; cache = cache; stopped = Some c.faults-faults.result } in
    let cause = c.in-Err.ensures.faults in
    unsynced_here g.S.Store
    (core_of c.args.self.now) c.args.first c.rows.i mid new c.rows.invariant.synced c.args.count c.rows-test.true
    (λ i. record mid {
      store = store;
      cache = c.sync.ensures.cache i;
      stopped = Some (c.faults-faults.ensures i);
    }) c.sync.ensures.changed
    (record { rose = cause.failed; later = cause.later }) c.sync.ensures.read_faults

pub returns-clause-synced : goal.returns-clause-synced
returns-clause-synced g c =
    let all : c.rows.i ≡ c.args.count = omega (arith, c.rows-test.false, c.rows.auto.i-end) in
    subst (λ (n : ℕ). Synced g.S.Store (core_of c.args.self.now) (ids_from c.args.first n) (core_of c.rows.self)) all
    c.rows.invariant.synced
