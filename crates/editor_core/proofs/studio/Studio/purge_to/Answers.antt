-- A purge to a size is a step.
use Rattle.editor_core.proofs.Common.{◌≡◌, subst, ℕ, ◌≤◌, IfErr, arith, after_err, Line, Refusal, BadRange, IsUndamaged}
use Rattle.editor_core.proofs.Common.{core_of, Took, quietly, as_reply}
use Rattle.purge_size.specs.Sizes.{IsPurgeTo}
use Rattle.editor_commits.proofs.PurgeToSize.{numbered_points, purged_to, small_blocks, some_go, to_leaves, to_stopped}
use Rattle.editor_commits.proofs.PurgeToSize.{to_wanting, unpurged_to}
use Rattle.pcm_base.specs.declared.answer.Reply.TheVariants as reply
use Rattle.pcm_base.specs.declared.command.Command.TheVariants as command
use Rattle.editor_core.proofs.studio.Studio.purge_to.Goals as goal

pub returns-in-Some-clause-took : goal.returns-in-Some-clause-took
returns-in-Some-clause-took g c =
    to_stopped g.S.Store (core_of c.args.self.now) c.args.bytes c.requires
    (g.met.S.Store.may_fewer c.args.self.now.reader.store) c.in-Some.faults c.in-Some.is

pub purge_count-requires-clause-numbered : goal.purge_count-requires-clause-numbered
purge_count-requires-clause-numbered g c =
    numbered_points g.S.Store (core_of c.args.self.now) c.args.bytes c.requires

pub purge_count-requires-clause-small : goal.purge_count-requires-clause-small
purge_count-requires-clause-small g c =
    small_blocks g.S.Store (core_of c.args.self.now) c.args.bytes c.requires

pub returns-in_err-count-clause-took : goal.returns-in_err-count-clause-took
returns-in_err-count-clause-took g c =
    let s = core_of c.args.self.now in
    after_err (λ r. Took g.S.Store s (quietly (Line (command.PurgeTo c.args.bytes)) (as_reply reply.Purged r)) s) _
    c.from_residual.result c.from_residual.ensures.1
    (to_wanting g.S.Store s c.args.bytes c.requires (g.met.S.Store.may_fewer s.store))

pub returns-then-count-eq0-clause-took : goal.returns-then-count-eq0-clause-took
returns-then-count-eq0-clause-took g c =
    to_leaves g.S.Store (core_of c.args.self.now) c.args.bytes c.requires
    (g.met.S.Store.may_fewer c.args.self.now.reader.store) c.in_default.is
    (subst (IsPurgeTo (core_of c.args.self.now).history c.args.bytes) c.if-count-eq0.true c.in_ok-count.ensures)

pub returns-then-count-eq0-clause-none : goal.returns-then-count-eq0-clause-none
returns-then-count-eq0-clause-none g c =
    λ same. subst (IsPurgeTo (core_of c.args.self.now).history c.args.bytes) c.if-count-eq0.true c.in_ok-count.ensures

pub returns-in_err-purge-clause-took : goal.returns-in_err-purge-clause-took
returns-in_err-purge-clause-took g c =
    let s = core_of c.args.self.now in
    let n = c.in_ok-count.count in
    let some : 1 ≤ n = omega (arith, c.if-count-eq0.false) in
    let few = c.in_ok-count.ensures.within in
    let why = c.in_err-purge.field-0.0 in
    after_err (λ r. Took g.S.Store s (quietly (Line (command.PurgeTo c.args.bytes)) (as_reply reply.Purged r))
    (core_of c.purge.new.self)) _ c.from_residual-in_err-purge.result c.from_residual-in_err-purge.ensures.1
    (unpurged_to g.S.Store s c.args.bytes n some few why (core_of c.purge.new.self) c.in_err-purge.ensures.took
    (λ bad. absurd (some_go n s.history.cursor some few (c.in_err-purge.ensures.range bad))))

pub returns-in_err-purge-clause-none : goal.returns-in_err-purge-clause-none
returns-in_err-purge-clause-none g c =
    let s = core_of c.args.self.now in
    let n = c.in_ok-count.count in
    let some : 1 ≤ n = omega (arith, c.if-count-eq0.false) in
    let why = c.in_err-purge.field-0.0 in
    let is : why ≡ BadRange → IsPurgeTo s.history c.args.bytes 0 =
    λ bad. absurd (some_go n s.history.cursor some c.in_ok-count.ensures.within (c.in_err-purge.ensures.range bad)) in
    after_err (λ r. IfErr r (λ (w : Refusal). w ≡ BadRange → IsPurgeTo s.history c.args.bytes 0)) _
    c.from_residual-in_err-purge.result c.from_residual-in_err-purge.ensures.1 is

pub returns-in_err-purge-clause-undamaged : goal.returns-in_err-purge-clause-undamaged
returns-in_err-purge-clause-undamaged g c =
    after_err (λ r. IfErr r IsUndamaged) _ c.from_residual-in_err-purge.result c.from_residual-in_err-purge.ensures.1
    c.in_err-purge.ensures.undamaged

pub returns-clause-took : goal.returns-clause-took
returns-clause-took g c =
    let s = core_of c.args.self.now in
    let n = c.in_ok-count.count in
    let some : 1 ≤ n = omega (arith, c.if-count-eq0.false) in
    let mid = core_of c.purge.new.self in
    purged_to g.S.Store s c.args.bytes n some c.in_ok-count.ensures.within mid
    (subst (λ r. Took g.S.Store s (quietly (Line (command.Purge n)) (as_reply (λ (number : ℕ). reply.Done) r)) mid)
    c.in_ok-purge.was c.purge.ensures.took) c.in_ok-count.ensures
