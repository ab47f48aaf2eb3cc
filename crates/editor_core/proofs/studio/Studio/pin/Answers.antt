-- A pin is a step.
use Rattle.editor_core.proofs.Common.{◌≡◌, sym, ap, ◌∙◌, subst, ℕ, ◌+◌, ◌-◌, ◌<◌, ◌^◌, List, length, Err, Ok, arith}
use Rattle.editor_core.proofs.Common.{err_from_is_err_and, after_err, Stored, IsUndamaged, Track}
use Rattle.editor_core.proofs.Common.{point_blocks, current_tracks, Core, HasIds, Took, quietly, as_reply, core_of}
use Rattle.editor_core.proofs.Common.{named_there, few_more, Few}
use Rattle.std.specs.Prelude.{IfErr}
use Rattle.layout_uses.specs.Tallies.{Comes}
use Rattle.editor_views.specs.Pins.{AnswersPin}
use Rattle.editor_commits.proofs.CurrentProject.{current_valid, old_names}
use Rattle.editor_views.proofs.PinSteps.{pinned, pin_spent, pin_stopped, pin_wanting}
use Rattle.pcm_base.specs.declared.answer.Reply.TheVariants as reply
use Rattle.pcm_base.specs.declared.command.Call.TheVariants as call
use Rattle.editor_core.proofs.studio.Studio.pin.Goals as goal
use Rattle.layout_uses.specs.Tallies.{uses_of}
use Rattle.row_ledger.specs.Lists.{RowsState, counts_of}

pub returns-in-Some-clause-took : goal.returns-in-Some-clause-took
returns-in-Some-clause-took g c =
    let s = core_of c.args.self.now in
    pin_stopped g.S.Store s c.requires (g.met.S.Store.may_fewer s.store) c.in-Some.faults c.in-Some.is

pub returns-then-self-eq-COUNTER_LIMIT-clause-took : goal.returns-then-self-eq-COUNTER_LIMIT-clause-took
returns-then-self-eq-COUNTER_LIMIT-clause-took g c =
    let s = core_of c.args.self.now in
    pin_spent g.S.Store s c.requires (g.met.S.Store.may_fewer s.store) c.in_default.is c.if-self-eq-COUNTER_LIMIT.true

pub returns-in_err-add_pin-clause-took : goal.returns-in_err-add_pin-clause-took
returns-in_err-add_pin-clause-took g c =
    let e = err_from_is_err_and c.from_residual.result c.from_residual.ensures.1 in
    let s = core_of c.args.self.now in
    let mid = core_of c.add_pin.new.self in
    subst (λ r. Took g.S.Store s (quietly call.Pin (as_reply reply.Pinned r)) mid)
    (sym (e.1 ∙ ap Err (e.2 ∙ c.in_err-add_pin.ensures.memory)))
    (pin_wanting g.S.Store s c.requires (g.met.S.Store.may_fewer s.store) mid c.in_err-add_pin.ensures.err)

pub returns-in_err-add_pin-clause-pinned : goal.returns-in_err-add_pin-clause-pinned
returns-in_err-add_pin-clause-pinned g c =
    after_err (λ r. AnswersPin (core_of c.args.self.now) r (core_of c.add_pin.new.self)) _ c.from_residual.result
    c.from_residual.ensures.1 c.in_err-add_pin.ensures.err

-- the studio after the pin was added, whose uses may have more room
same_history : (a b : Stored (List Track)) → a ≡ b → current_tracks a.history ≡ current_tracks b.history
same_history a b e = ap (λ (h : Stored (List Track)). current_tracks h.history) e

pub use_current-requires-clause-room : goal.use_current-requires-clause-room
use_current-requires-clause-room g c =
    let s = core_of c.args.self.now in
    let was = same_history c.add_pin.new.self.history c.args.self.now.history c.in_ok-add_pin.ensures.history in
    omega (
      arith,
      c.in_ok-add_pin.ensures.uses,
      ap (λ (ts : List Track). length ts) was,
      (current_valid g.S.Store s c.requires).few,
    )

pub use_current-requires-clause-there : goal.use_current-requires-clause-there
use_current-requires-clause-there g c =
    let s = core_of c.args.self.now in
    let was = same_history c.add_pin.new.self.history c.args.self.now.history c.in_ok-add_pin.ensures.history in
    let base : HasIds s.counts (point_blocks (current_tracks s.history)) = named_there g.S.Store s c.requires
    (point_blocks (current_tracks s.history)) (old_names g.S.Store s c.requires) in
    subst (λ (l : RowsState). HasIds (counts_of l) (point_blocks (current_tracks c.add_pin.new.self.history.history)))
    (sym c.in_ok-add_pin.ensures.ledger) (subst (λ (ts : List Track). HasIds s.counts (point_blocks ts)) (sym was) base)

pub use_current-requires-clause-few : goal.use_current-requires-clause-few
use_current-requires-clause-few g c =
    let s = core_of c.args.self.now in
    let was = same_history c.add_pin.new.self.history c.args.self.now.history c.in_ok-add_pin.ensures.history in
    let base : Few s.counts (point_blocks (current_tracks s.history)) = few_more g.S.Store s c.requires
    (current_tracks s.history) s.next_track (current_valid g.S.Store s c.requires) in
    subst (λ (l : RowsState). Few (counts_of l) (point_blocks (current_tracks c.add_pin.new.self.history.history)))
    (sym c.in_ok-add_pin.ensures.ledger) (subst (λ (ts : List Track). Few s.counts (point_blocks ts)) (sym was) base)

pub returns-clause-took : goal.returns-clause-took
returns-clause-took g c =
    let s = core_of c.args.self.now in
    let is = c.requires in
    let mid = core_of c.add_pin.new.self in
    let was = same_history c.add_pin.new.self.history c.args.self.now.history c.in_ok-add_pin.ensures.history in
    let tally = c.add_pin.new.self.tally in
    let tally' = c.use_current.new.tally in
    let came = subst (λ (ts : List Track). Comes ts tally tally') was c.use_current.ensures in
    let uses_are : mid.uses ≡ s.uses = ap (λ (z : Core g.row.S.Denot). z.uses) c.in_ok-add_pin.ensures.ok in
    let counts_are : mid.counts ≡ s.counts = ap (λ (z : Core g.row.S.Denot). z.counts) c.in_ok-add_pin.ensures.ok in
    let room : s.next_pin < 2 ^ 62 = omega (arith, c.if-self-eq-COUNTER_LIMIT.false, is.counters.pin_most) in
    let number : mid.next_pin ≡ s.next_pin = ap (λ (z : Core g.row.S.Denot). z.next_pin) c.in_ok-add_pin.ensures.ok in
    let replied : s.next_pin ≡ mid.next_pin + 1 - 1 = omega (arith, number) in
    subst (λ (n : ℕ). Took g.S.Store s (quietly call.Pin (Ok (reply.Pinned n))) (record mid {
      next_pin = mid.next_pin + 1;
      uses = uses_of tally';
      counts = counts_of tally'.ledger;
    })) replied
    (subst (λ (z : Core g.row.S.Denot). Took g.S.Store s (quietly call.Pin (Ok (reply.Pinned s.next_pin))) (record z {
      next_pin = z.next_pin + 1;
      uses = uses_of tally';
      counts = counts_of tally'.ledger;
    })) (sym c.in_ok-add_pin.ensures.ok)
    (pinned g.S.Store s is
    (g.met.S.Store.may_fewer s.store) tally tally' uses_are counts_are came room c.in_default.is))

pub returns-clause-pinned : goal.returns-clause-pinned
returns-clause-pinned g c =
    let mid = core_of c.add_pin.new.self in
    let s = core_of c.args.self.now in
    let tally' = c.use_current.new.tally in
    let number : mid.next_pin ≡ s.next_pin = ap (λ (z : Core g.row.S.Denot). z.next_pin) c.in_ok-add_pin.ensures.ok in (
      omega (arith, number),
      (λ i. record (c.in_ok-add_pin.ensures.ok i) {
        next_pin = number i + 1;
        uses = uses_of tally';
        counts = counts_of tally'.ledger;
      }),
    )

pub returns-in_err-add_pin-clause-undamaged : goal.returns-in_err-add_pin-clause-undamaged
returns-in_err-add_pin-clause-undamaged g c =
    let e = err_from_is_err_and c.from_residual.result c.from_residual.ensures.1 in
    subst (λ r. IfErr r IsUndamaged) (sym (e.1 ∙ ap Err (e.2 ∙ c.in_err-add_pin.ensures.memory))) tt
