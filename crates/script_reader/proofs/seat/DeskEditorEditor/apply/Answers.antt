-- A command is one turn of the seat.
use Rattle.std.proofs.Common.{◌≡◌, ◌==◌, sym, ap, refl, ◌∙◌, nat_lt, if◌then◌else◌, Bool, true, false}
use Rattle.pcm_base.specs.{declared.command.Command.TheVariants.Bounce, Shape.is_commit, Shape.shape_of}
use Rattle.pin_turn.specs.Calls.{known}
use Rattle.studio_seats.specs.Desks.{start_at}
use Rattle.studio_seats.proofs.OnwardLemmas.{onward_on}
use Rattle.script_reader.specs.{Calls.IsOfScript, Place.place_of, Place.with_number}
use Rattle.script_reader.proofs.BounceLemmas.{bounce_as, turn_of}
use Rattle.script_reader.proofs.SeatLemmas.{err_turn, line_goes, ok_turn, stays_low}
use Rattle.script_reader.proofs.seat.DeskEditorEditor.apply.Goals as goal

-- a line is one commit or none
one_line : (b : Bool) → ((if b then 1 else 0) == 1) ≡ nat_lt 0 (if b then 1 else 0)
one_line true = refl
one_line false = refl

pub invariant_of-self-in-Ok : goal.invariant_of-self-in-Ok
invariant_of-self-in-Ok g c =
    let s = c.args.self.now in record {
      at = c.apply-at.ensures.same;
      low = rw c.max-self.ensures (stays_low g.S.Store g.V.Vault (start_at s.desk.now) (known s.seat)
          (known c.apply-at.new.seat) _ _ _ c.apply-at.result s.last c.apply-at.ensures.says s.low);
    }

pub invariant_of-self-in-Err-1 : goal.invariant_of-self-in-Err-1
invariant_of-self-in-Err-1 g c =
    let s = c.args.self.now in record {
      at = c.apply-at.ensures.same;
      low = rw c.max-self.ensures (stays_low g.S.Store g.V.Vault (start_at s.desk.now) (known s.seat)
          (known c.apply-at.new.seat) _ _ _ c.apply-at.result s.last c.apply-at.ensures.says s.low);
    }

pub returns-in-Ok-clause-turn : goal.returns-in-Ok-clause-turn
returns-in-Ok-clause-turn g c =
    let s = c.args.self.now in
    rw (c.max-self.ensures, c.apply-at.ensures.tells)
    (ok_turn g.S.Store g.V.Vault (start_at s.desk.now) (known s.seat) (known c.apply-at.new.seat) c.args.command.now
    (g.V.Vault.tells s.vault.now) (g.V.Vault.holds s.vault.now) (g.V.Vault.holds c.apply-at.new.vault)
    (g.V.Vault.fault_count s.vault.now) (g.V.Vault.fault_count c.apply-at.new.vault)
    c.apply-at.new.answer.reply c.apply-at.result s.last s.commits.items c.apply-at.ensures.says s.low
    c.apply-at.ensures.heard c.apply-at.ensures.faults
    (λ none. ap g.V.Vault.fault_count (c.apply-at.ensures.untouched none))
    (turn_of c.args.command.now c.in_default.not-Bounce) c.note.new.numbers.items c.in-Ok.is
    (c.note.ensures ∙ (λ i. with_number ((c.is_commit.ensures ∙ one_line (is_commit (shape_of c.args.command.now))) i)
    (c.reserve.ensures.items i) c.apply-at.result.at)))

pub returns-in-Err-clause-turn : goal.returns-in-Err-clause-turn
returns-in-Err-clause-turn g c =
    let s = c.args.self.now in
    rw (c.max-self.ensures, c.apply-at.ensures.tells, c.reserve.ensures.items)
    (err_turn g.S.Store g.V.Vault (start_at s.desk.now) (known s.seat) (known c.apply-at.new.seat) c.args.command.now
    (g.V.Vault.tells s.vault.now) (g.V.Vault.holds s.vault.now) (g.V.Vault.holds c.apply-at.new.vault)
    (g.V.Vault.fault_count s.vault.now) (g.V.Vault.fault_count c.apply-at.new.vault)
    c.apply-at.new.answer.reply c.apply-at.result s.last s.commits.items c.apply-at.ensures.says s.low
    c.apply-at.ensures.heard c.apply-at.ensures.faults
    (λ none. ap g.V.Vault.fault_count (c.apply-at.ensures.untouched none))
    (turn_of c.args.command.now c.in_default.not-Bounce) c.in-Err.reason c.in-Err.is
    (λ used. let same = (c.apply-at.ensures.spent used).1 in (ap g.V.Vault.holds same, ap g.V.Vault.fault_count same)))

pub returns-in-Ok-clause-goes : goal.returns-in-Ok-clause-goes
returns-in-Ok-clause-goes g c = λ first h.
    let on = line_goes g.S.Store g.V.Vault (start_at c.args.self.now.desk.now) (known first.seat)
    (known c.args.self.now.seat) (known c.apply-at.new.seat) _ _ _ c.apply-at.result c.apply-at.ensures.says h.2 in
    (h.0, h.1, on)

pub returns-in-Err-clause-goes : goal.returns-in-Err-clause-goes
returns-in-Err-clause-goes g c = λ first h.
    let on = line_goes g.S.Store g.V.Vault (start_at c.args.self.now.desk.now) (known first.seat)
    (known c.args.self.now.seat) (known c.apply-at.new.seat) _ _ _ c.apply-at.result c.apply-at.ensures.says h.2 in
    (h.0, h.1, on)

pub apply-at-requires : goal.apply-at-requires
apply-at-requires g c = record {
  seat = c.args.self.now.at;
  in_form = c.requires.in_form;
  turn = turn_of c.args.command.now c.in_default.not-Bounce;
}

pub returns-in-Bounce-clause-turn : goal.returns-in-Bounce-clause-turn
returns-in-Bounce-clause-turn g c =
    let s = c.args.self.now in
    let t = c.carry_bounce.new.self in
    bounce_as
    (place_of (start_at s.desk.now) (known s.seat) s.last s.commits.items (g.V.Vault.tells s.vault.now)
    (g.V.Vault.holds s.vault.now) (g.V.Vault.fault_count s.vault.now))
    (place_of (start_at t.desk.now) (known t.seat) t.last t.commits.items (g.V.Vault.tells t.vault.now)
    (g.V.Vault.holds t.vault.now) (g.V.Vault.fault_count t.vault.now))
    c.as_str.result.now c.args.command.now c.carry_bounce.result
    (c.in-Bounce.is ∙ sym (ap Bounce c.as_str.ensures)) c.carry_bounce.ensures.turn

pub returns-in-Bounce-clause-goes : goal.returns-in-Bounce-clause-goes
returns-in-Bounce-clause-goes g c = λ first h.
    let s = c.args.self.now in
    let t = c.carry_bounce.new.self in (
      c.carry_bounce.ensures.of.0 ∙ h.0,
      c.carry_bounce.ensures.of.1 ∙ h.1,
      onward_on IsOfScript (known first.seat) (known s.seat) (known t.seat) h.2 c.carry_bounce.ensures.goes,
    )
