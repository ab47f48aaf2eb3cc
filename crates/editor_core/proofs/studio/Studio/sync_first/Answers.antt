-- One sync after another.
use Rattle.editor_core.proofs.Common.{◌≡◌, inl, refl, sym, subst, length, ℕ, ◌+◌, [], ◌∷◌, ◌++◌, IsSome, Some}
use Rattle.editor_core.proofs.Common.{Option, Err, arith}
use Rattle.editor_core.proofs.Common.{after_err, Entries, core_of, Syncing, first_none, long}
use Rattle.editor_cleanup.specs.Passes.{SyncsFirst}
use Rattle.editor_cleanup.proofs.SyncPass.{next_there, none_there, syncing_more, syncing_none, syncs_all, syncs_fail}
use Rattle.editor_core.proofs.studio.Studio.sync_first.Goals as goal
use Rattle.row_ledger.specs.Lists.{counts_of}

is_some : (o : Option ℕ) → o ≡ Some 0 → IsSome o
is_some o e = subst IsSome (sym e) refl

pub loop-i-init : goal.loop-i-init
loop-i-init g c =
    let s = core_of c.args.self.now in
    ([], refl, syncing_none g.S.Store s (g.met.S.Store.may_fewer s.store))

pub returns-in_default : goal.returns-in_default
returns-in_default g c =
    let s = core_of c.args.self.now in
    let is = c.loop-i.invariant in
    syncs_all g.S.Store s is.0 c.loop-i.from (core_of c.loop-i.self) is.2 tt c.args.count
    (first_none s.counts c.args.count is.0 c.loop-i.from is.2.next (omega (arith, is.1, c.loop-i-test.true))
    (none_there g.S.Store s is.0 c.loop-i.from (core_of c.loop-i.self) is.2 c.in_default.ensures.none))

pub returns-in_err-sync : goal.returns-in_err-sync
returns-in_err-sync g c =
    let s = core_of c.args.self.now in
    let mid = core_of c.loop-i.self in
    let is = c.loop-i.invariant in
    let few = c.loop-i-test.true in
    let store = c.sync.new.self.store in
    after_err (λ r. SyncsFirst g.S.Store s c.args.count r (record mid { store = store; cache = c.sync.new.self.cache }))
    _ c.from_residual.result c.from_residual.ensures.1
    (subst (λ (k : Entries). SyncsFirst g.S.Store s c.args.count (Err c.in_err-sync.field-0.0)
    (record mid { store = store; cache = k })) (sym c.sync.ensures.cache)
    (syncs_fail g.S.Store s is.0 c.loop-i.from mid is.2 c.in-Some.id store c.in_err-sync.ensures.reads
    c.in_err-sync.ensures.changed c.in_err-sync.field-0.0 c.args.count (omega (arith, is.1, few))
    c.in_err-sync.ensures.faults c.in_err-sync.ensures.read_faults))

pub overflow_add-from : goal.overflow_add-from
overflow_add-from g c =
    let is = c.loop-i.invariant in
    let next = next_there g.S.Store (core_of c.args.self.now) is.0 c.loop-i.from (core_of c.loop-i.self) is.2
    c.in-Some.id c.in-Some.ensures.found in
    let most = c.requires c.in-Some.id (is_some (counts_of c.args.self.now.tally.ledger c.in-Some.id) next.free) in
    omega (arith, most)

pub loop-i-preserved : goal.loop-i-preserved
loop-i-preserved g c =
    let s = core_of c.args.self.now in
    let mid = core_of c.loop-i.self in
    let is = c.loop-i.invariant in
    let id = c.in-Some.id in
    let done = c.in_ok-sync.ensures in
    let store = c.sync.new.self.store in
    let next = next_there g.S.Store s is.0 c.loop-i.from mid is.2 id c.in-Some.ensures.found in (
      is.0 ++ id ∷ [],
      omega (arith, long is.0 id, is.1),
      subst (λ (k : Entries). Syncing g.S.Store s (is.0 ++ id ∷ []) (id + 1) (record mid { store = store; cache = k }))
          (sym done.cache)
          (syncing_more g.S.Store s is.0 c.loop-i.from mid is.2 id store done.reads done.changed next
          done.durable done.faults.kept done.read_faults),
    )

pub returns : goal.returns
returns g c =
    let is = c.loop-i.invariant in
    let all : length is.0 ≡ c.args.count = omega (arith, is.1, c.loop-i-test.false, c.loop-i.auto.i-end) in
    syncs_all g.S.Store (core_of c.args.self.now) is.0 c.loop-i.from (core_of c.loop-i.self) is.2 tt c.args.count
    (record { end = c.loop-i.from; next = is.2.next; few = omega (arith, all); all = inl all })
