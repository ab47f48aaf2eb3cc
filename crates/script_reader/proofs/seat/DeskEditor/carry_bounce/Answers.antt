-- A bounce is a part of the script.
use Rattle.pin_turn.specs.Calls.{known}
use Rattle.studio_seats.specs.Desks.{start_at}
use Rattle.studio_seats.proofs.WorkLemmas.{onward_as}
use Rattle.std.proofs.Common.{inr}
use Rattle.sound_bounce.specs.Bounces.{IsOfBounce}
use Rattle.script_reader.specs.Calls.{IsOfScript}
use Rattle.script_reader.proofs.BounceLemmas.{bounce_low, bounce_told}
use Rattle.script_reader.proofs.seat.DeskEditor.carry_bounce.Goals as goal

pub invariant_of-self : goal.invariant_of-self
invariant_of-self g c =
    let s = c.args.self.now in record {
      at = c.bounce-at.ensures.same;
      low = rw c.max-self.ensures (bounce_low g.S.Store g.V.Vault (start_at s.desk.now) (known s.seat)
          (known c.bounce-at.new.seat) c.args.name.now s.vault.now c.bounce-at.new.vault c.bounce-at.result s.last
          s.commits.items c.bounce-at.ensures.bounced s.low);
    }

pub returns-clause-turn : goal.returns-clause-turn
returns-clause-turn g c =
    let s = c.args.self.now in
    rw c.max-self.ensures (bounce_told g.S.Store g.V.Vault (start_at s.desk.now) (known s.seat)
    (known c.bounce-at.new.seat) c.args.name.now s.vault.now c.bounce-at.new.vault c.bounce-at.result s.last
    s.commits.items c.bounce-at.ensures.bounced s.low c.wrote.result c.wrote.ensures)

pub returns-clause-goes : goal.returns-clause-goes
returns-clause-goes g c =
    onward_as IsOfBounce IsOfScript (known c.args.self.now.seat) (known c.bounce-at.new.seat) (λ k own. inr own)
    c.bounce-at.ensures.bounced.onward
