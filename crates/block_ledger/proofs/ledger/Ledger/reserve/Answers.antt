-- The entries that have a count, under a new tree.
use Rattle.std.proofs.Common.{◌≡◌, ℕ, Option, None, List, length, sym, ◌∙◌, ap, subst, arith}
use Rattle.std.proofs.lemmas.List.{length-replicate, length-map}
use Rattle.std.specs.List.{filter}
use Rattle.block_ledger.specs.declared.entry.Entry.{Entry}
use Rattle.block_ledger.specs.Entries.{LedgerState, count_in, count_of, id_of, is_kept, IsRising, IsLeaves}
use Rattle.block_ledger.proofs.Listed.{there_in, are_there, filter_twice}
use Rattle.block_ledger.proofs.{Rising.rising_filter, Lookups.count_filter}
use Rattle.block_ledger.proofs.ledger.Ledger.reserve.Goals as goal

pub places_for-requires : goal.places_for-requires
places_for-requires c = omega (arith, c.kept_len.ensures.most, c.deref.ensures.len, c.self.inside.entries.small)

kept : (c : goal.After-drop-self-inside-2)
    → c.in_ok-entries.entries.items ≡ filter is_kept c.self.inside.entries.items
kept c = c.in_ok-entries.ensures.items ∙ ap (filter is_kept) c.deref-2.ensures.value

there : (c : goal.After-drop-self-inside-2) → c.kept_len.result ≡ length (filter is_kept c.self.inside.entries.items)
there c = c.kept_len.ensures.value ∙ ap (λ es. length (filter is_kept es)) c.deref.ensures.value

long : (c : goal.After-drop-self-inside-2) → length c.refresh.new.free ≡ c.in_ok-places.places
long c = c.refresh.ensures.len ∙ ap length c.in_ok-free.ensures
    ∙ length-replicate {A = Option ℕ} c.in_ok-places.places None

rising : (c : goal.After-drop-self-inside-2) → IsRising c.in_ok-entries.entries.items
rising c = subst IsRising (sym (kept c)) (rising_filter is_kept c.self.inside.entries.items c.self.invariant.rising)

pub invariant_of-self : goal.invariant_of-self
invariant_of-self c = record {
  rising = rising c;
  leaves = subst (λ (l : List Entry). IsLeaves l c.refresh.new.free) c.deref-3.ensures.value c.refresh.ensures.leaves;
  few = omega (arith, long c, ap length (kept c), there c, c.in_ok-places.ensures.0);
  room = omega (arith, long c, c.in_ok-entries.ensures.room);
}

pub returns-clause-counts : goal.returns-clause-counts
returns-clause-counts c = λ id.
    ap (λ (l : List Entry). count_in l id) (kept c)
    ∙ count_filter c.self.inside.entries.items id c.self.invariant.rising
    ∙ ap (λ (k : LedgerState). count_of k id) c.self.view_is

pub returns-clause-places : goal.returns-clause-places
returns-clause-places c = λ few. record {
  ids = there_in c.in_ok-entries.entries.items;
  there = are_there c.in_ok-entries.entries.items (rising c);
  size = omega (
    arith,
    long c,
    ap length (kept c),
    there c,
    c.in_ok-places.ensures.0,
    length-map (filter is_kept c.in_ok-entries.entries.items) id_of,
    ap (λ es. length (filter is_kept es)) (kept c),
    ap length (filter_twice is_kept c.self.inside.entries.items),
  );
}
