-- The pin is let go in one turn, or not at all.
use Rattle.sound_bounce.proofs.Common.{Bool, subst, sym, known, start_at, views, IsGone}
use Rattle.sound_bounce.proofs.BounceLemmas.{gone_none, gone_turn}
use Rattle.sound_bounce.proofs.snapshot.let_go.Goals as goal

pub returns-then-may-clause-gone : goal.returns-then-may-clause-gone
returns-then-may-clause-gone g c =
    let v = known c.args.seat.now in
    let w = known c.unpin-what.new.seat in
    subst (λ (b : Bool). IsGone c.args.pin b (views v w)) (sym c.if-may.true)
    (gone_turn g.S.Store g.V.Vault (start_at c.args.desk.now) c.args.pin v w c.unpin-what.result
    c.unpin-what.ensures.says)

pub returns-else-may-clause-gone : goal.returns-else-may-clause-gone
returns-else-may-clause-gone g c =
    let v = known c.args.seat.now in
    subst (λ (b : Bool). IsGone c.args.pin b (views v v)) (sym c.if-may.false) (gone_none c.args.pin v)
