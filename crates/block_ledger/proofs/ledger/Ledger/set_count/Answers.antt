-- The entry keeps its id, and its leaf is that of the entry as it was written.
use Rattle.std.proofs.Common.{◌≡◌, ◌<◌, length, set, sym, ◌∙◌, ap, subst, arith}
use Rattle.std.proofs.lemmas.List.{get_or_read, get_or-set_same, length-set}
use Rattle.block_ledger.specs.declared.entry.Entry.{Entry}
use Rattle.block_ledger.specs.Entries.{LedgerState, id_of, id_at, free_of, IsLeaves}
use Rattle.block_ledger.proofs.{Rising.rising_set, Leaves.leaves_set, Searches.no_entry, Searches.id_at_is}
use Rattle.block_ledger.proofs.ledger.Ledger.set_count.Goals as goal

pub invariant_of-self : goal.invariant_of-self
invariant_of-self c =
    let all = c.self.invariant in
    let entries = c.self.inside.entries.items in
    let free = c.self.inside.free in
    let i = c.args.i in
    let new : Entry = record { id = c.index_mut.result.now.id; count = c.args.count } in
    let within : i < length entries = subst (λ (k : LedgerState). i < length k.entries) (sym c.self.view_is) c.requires in
    let same : new.id ≡ id_at entries i =
    ap id_of (get_or_read entries i c.index_mut.result.now within c.index_mut.ensures.value no_entry)
    ∙ sym (id_at_is entries i) in
    let read : c.free_id.result ≡ free_of new =
    c.free_id.ensures ∙ ap free_of (c.index.ensures ∙ get_or-set_same entries i new c.index.result.now within) in
    let leaf : c.set.new.self ≡ set free i (free_of new) = c.set.ensures ∙ ap (set free i) read in
    record {
      rising = rising_set entries i new all.rising within same;
      leaves =
          subst (IsLeaves (set entries i new)) (sym leaf) (leaves_set entries free i new within all.few all.leaves);
      few = omega (arith, all.few, length-set entries i new, ap length leaf, length-set free i (free_of new));
      room = omega (arith, all.room, ap length leaf, length-set free i (free_of new));
    }
