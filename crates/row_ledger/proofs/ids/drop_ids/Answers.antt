-- The ids so far are dropped.
use Rattle.std.proofs.Common.{◌∷◌, [], ℕ, List, sym, subst, take, get_or}
use Rattle.std.proofs.lemmas.List.{take_more}
use Rattle.block_ledger.specs.Entries.{count_of}
use Rattle.row_ledger.specs.Rows.{Held}
use Rattle.row_ledger.proofs.Helds.{next_named, dropped_append, dropped_one}
use Rattle.row_ledger.proofs.Room.{room_more}
use Rattle.row_ledger.proofs.ids.drop_ids.Goals as goal

pub drop_one-requires : goal.drop_one-requires
drop_one-requires c = next_named (count_of c.args.ledger.now) (count_of c.loop-id.ledger) c.args.ids.now
    c.loop-id.id-index c.loop-id-test.true c.requires c.loop-id.invariant.held

pub loop-id-preserved : goal.loop-id-preserved
loop-id-preserved c =
    let ids = c.args.ids.now in
    let i = c.loop-id.id-index in
    let old = count_of c.args.ledger.now in
    let mid = count_of c.loop-id.ledger in
    let new = count_of c.drop_one.new.self in
    let named = next_named old mid ids i c.loop-id-test.true c.requires c.loop-id.invariant.held in
    record {
      held = subst (λ (xs : List ℕ). Held new old xs) (sym (take_more ids i 0 c.loop-id-test.true))
          (dropped_append old mid new (take i ids) (get_or ids i 0 ∷ []) c.loop-id.invariant.held
          (dropped_one mid new (get_or ids i 0) c.drop_one.ensures.counts named));
      room = room_more c.args.ledger.now c.loop-id.ledger c.drop_one.new.self c.loop-id.invariant.room
          (record { same_spare = c.drop_one.ensures.spare; same_places = c.drop_one.ensures.places });
    }
