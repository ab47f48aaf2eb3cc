-- Ledgers that have as much room.
use Rattle.std.proofs.Common.{◌≡◌, refl, ◌∙◌, subst}
use Rattle.block_ledger.specs.Entries.{LedgerState}
use Rattle.row_ledger.specs.Rows.{HasSameRoom}

pub room_none : (a : LedgerState) → HasSameRoom a a
room_none a = record { same_spare = refl; same_places = refl }

pub room_more : (a b c : LedgerState) → HasSameRoom a b → HasSameRoom b c → HasSameRoom a c
room_more a b c one two = record {
  same_spare = two.same_spare ∙ one.same_spare;
  same_places = two.same_places ∙ one.same_places;
}

-- a ledger that is the same
pub room_is : (a b c : LedgerState) → a ≡ b → HasSameRoom a c → HasSameRoom b c
room_is a b c e room = subst (λ (l : LedgerState). HasSameRoom l c) e room
