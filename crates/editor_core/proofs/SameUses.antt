-- A tally that keeps the uses of layouts, their lists and what is named by itself has the same uses.
use Rattle.editor_core.proofs.Common.{◌≡◌, ℕ, count_of, Tally}
use Rattle.row_ledger.specs.Lists.{list_of, singles_of}
use Rattle.layout_uses.specs.Tallies.{uses_of}

pub same_uses : (old new : Tally) → ((n : ℕ) → count_of new.uses n ≡ count_of old.uses n)
    → ((number : ℕ) → list_of new.ledger number ≡ list_of old.ledger number)
    → ((id : ℕ) → singles_of new.ledger id ≡ singles_of old.ledger id) → uses_of new ≡ uses_of old
same_uses old new uses lists singles = λ i. record {
  counts = λ n. uses n i;
  lists = λ number. lists number i;
  singles = λ id. singles id i;
}
