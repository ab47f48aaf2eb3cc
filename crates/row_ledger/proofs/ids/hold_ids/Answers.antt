-- The ids so far are held.
use Rattle.std.proofs.Common.{◌∷◌, [], ℕ, List, sym, subst, take, get_or, inl}
use Rattle.std.proofs.lemmas.List.{take_more}
use Rattle.block_ledger.specs.Entries.{count_of}
use Rattle.row_ledger.specs.Rows.{Held}
use Rattle.row_ledger.proofs.Helds.{next_there, next_few, held_append, held_one}
use Rattle.row_ledger.proofs.Room.{room_more}
use Rattle.row_ledger.proofs.ids.hold_ids.Goals as goal

pub hold-requires : goal.hold-requires
hold-requires c = inl (next_there (count_of c.args.ledger.now) (count_of c.loop-id.ledger) c.args.ids.now
    c.loop-id.id-index c.loop-id-test.true c.requires.there c.loop-id.invariant.held)

pub loop-id-preserved : goal.loop-id-preserved
loop-id-preserved c =
    let ids = c.args.ids.now in
    let i = c.loop-id.id-index in
    let old = count_of c.args.ledger.now in
    let mid = count_of c.loop-id.ledger in
    let new = count_of c.hold.new.self in
    let there = next_there old mid ids i c.loop-id-test.true c.requires.there c.loop-id.invariant.held in
    let few = next_few old mid ids i c.loop-id-test.true c.requires.few c.loop-id.invariant.held in
    record {
      held = subst (λ (xs : List ℕ). Held old new xs) (sym (take_more ids i 0 c.loop-id-test.true))
          (held_append old mid new (take i ids) (get_or ids i 0 ∷ []) c.loop-id.invariant.held
          (held_one mid new (get_or ids i 0) c.hold.ensures.counts there few));
      room = room_more c.args.ledger.now c.loop-id.ledger c.hold.new.self c.loop-id.invariant.room
          (record { same_spare = c.hold.ensures.there there; same_places = c.hold.ensures.places });
    }
