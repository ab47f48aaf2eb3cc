-- A read is one turn of the seat.
use Rattle.studio_seats.proofs.Common.{ℕ, length, subst, sym, NextAt, after_read, known, start_at, worker, ReadsOn}
use Rattle.studio_seats.proofs.FrameLemmas.{back_frames, gives, same_frames, still_made}
use Rattle.studio_seats.proofs.ReadLemmas.{reads_turn}
use Rattle.studio_seats.proofs.giver.DeskGiverFrameGiver.give_frames.Goals as goal

pub invariant_of-self : goal.invariant_of-self
invariant_of-self g c =
    let s = c.args.self.now in record {
      at = c.read_pin-said.ensures.same;
      made =
          still_made g.S.Store g.V.Vault (start_at s.desk.now) s.pin c.args.from c.args.out.now c.read_pin-said.new.out
          (known s.seat) (known c.read_pin-said.new.seat) c.read_pin-said.result c.read_pin-said.ensures.says s.made;
    }

pub returns-clause-given : goal.returns-clause-given
returns-clause-given g c =
    let s = c.args.self.now in
    gives g.S.Store g.V.Vault (start_at s.desk.now) s.pin c.args.from c.args.out.now c.read_pin-said.new.out
    (known s.seat) (known c.read_pin-said.new.seat) c.read_pin-said.result c.read_pin-said.ensures.says

pub returns-clause-same : goal.returns-clause-same
returns-clause-same g c = λ all.
    let s = c.args.self.now in (
      same_frames g.S.Store g.V.Vault (start_at s.desk.now) s.pin c.args.from c.args.out.now c.read_pin-said.new.out
          (known s.seat) (known c.read_pin-said.new.seat) c.read_pin-said.result c.read_pin-said.ensures.says all,
      back_frames g.S.Store g.V.Vault
          (start_at s.desk.now) s.pin c.args.from c.args.out.now c.read_pin-said.new.out (known s.seat)
          (known c.read_pin-said.new.seat) c.read_pin-said.result c.read_pin-said.ensures.says s.made all,
    )

pub returns-clause-goes : goal.returns-clause-goes
returns-clause-goes g c = λ first h some few.
    let s = c.args.self.now in
    let v = worker (known first.seat) first.refused in (
      h.0,
      h.1,
      subst (λ (pin : ℕ). ReadsOn pin (after_read c.args.from (length c.args.out.now) c.read_pin-said.result.what) v
          (worker (known c.read_pin-said.new.seat) c.first_of-self.result)) h.1
          (reads_turn s.pin c.args.from g.S.Store g.V.Vault (start_at s.desk.now) v (known s.seat)
          (known c.read_pin-said.new.seat) s.refused c.first_of-self.result c.args.out.now c.read_pin-said.new.out
          (some, few) c.read_pin-said.auto.out
          (subst (λ (pin : ℕ). ReadsOn pin (NextAt c.args.from) v (worker (known s.seat) s.refused)) (sym h.1) h.2)
          c.read_pin-said.result c.read_pin-said.ensures.says c.read_pin-said.ensures.bound
          c.first_of-self.ensures.unrefused c.first_of-self.ensures.refusal),
    )
