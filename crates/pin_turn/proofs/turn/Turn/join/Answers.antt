-- The join and the comparison after it keep the rule, and the seat knows what the two steps told.
use Rattle.std.proofs.Common.{rules, ap, ◌∙◌}
use Rattle.pin_turn.proofs.{KeepsJoins.joins, KeepsJoins.compares, Calls.is_settled, Calls.hears}
use Rattle.pin_turn.proofs.turn.Turn.join.Goals as goal

pub join_seat-requires : goal.join_seat-requires
join_seat-requires g c = (
  search rules,
  search rules,
  search rules,
  search rules,
  joins g.T.Stands.stands g.T.Stands.maker _ _ _ _ _ (ap (λ s. s.me.0.stage) c.args.seat.now.rests)
      (ap (λ s. s.me.0.stage) c.args.other.rests) c.requires.away.0 c.requires.away.1,
)

pub load-requires : goal.load-requires
load-requires g c = (
  search rules,
  search rules,
  compares g.T.Stands.stands g.T.Stands.maker _ _ _ _ _ _ _ (ap (λ m. m.0.stage) c.join_seat.ensures.2),
)

pub invariant_of-seat : goal.invariant_of-seat
invariant_of-seat g c =
    let h = hears g.T.Stands.maker _ c.args.other.place.me.0 _ _ _
    (ap (λ s. s.me.0.stage) c.args.seat.now.rests) c.join_seat.ensures.2 c.load.ensures.2 in
    record {
      rests = is_settled _ (ap (λ m. m.0.stage) h.0 ∙ ap (λ s. s.me.0.stage) c.args.seat.now.rests)
          (ap (λ m. m.1) h.0 ∙ ap (λ s. s.me.1) c.args.seat.now.rests);
    }

pub returns-clause-kept : goal.returns-clause-kept
returns-clause-kept g c =
    let h = hears g.T.Stands.maker _ c.args.other.place.me.0 _ _ _
    (ap (λ s. s.me.0.stage) c.args.seat.now.rests) c.join_seat.ensures.2 c.load.ensures.2 in (
      (
        c.load.ensures.0 ∙ (c.join_seat.ensures.0 ∙ c.requires.table.0.0),
        ap (λ m. m.0.start) h.0 ∙ c.requires.table.0.1,
      ),
      ap (λ m. m.0) h.0,
    )

pub returns-clause-alike : goal.returns-clause-alike
returns-clause-alike g c = (hears g.T.Stands.maker _ c.args.other.place.me.0 _ _ _
    (ap (λ s. s.me.0.stage) c.args.seat.now.rests) c.join_seat.ensures.2 c.load.ensures.2).1
