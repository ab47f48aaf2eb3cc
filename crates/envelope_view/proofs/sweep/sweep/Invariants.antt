-- The summary so far, what is left, and that nothing of the disk has changed.
use Rattle.envelope_view.proofs.Common.{◌≡◌, ◌≤◌, ◌+◌, ℕ, take, drop, Ok, IsTrue, Contains, sources_of, Entries, Hits}
use Rattle.envelope_view.proofs.Common.{Reads, BlockFault, samples_among, Sources, BlockRef, IsInBlock, ahead_blocks}
use Rattle.envelope_view.proofs.Common.{ahead_cells, IsKnown, AreWhole, ahead_items, HasItems}
use Rattle.envelope_view.proofs.Running.{Running}
use Rattle.envelope_view.proofs.sweep.sweep.Given as goal

abbrev pub invariant-stretches : goal.invariant-stretches
invariant-stretches g l = record {
  within : l.left ≤ l.fn.count;
  stretch : IsInBlock l.ahead.stretch;
  blocks : (b : BlockRef) → Contains (ahead_blocks l.ahead) b → Contains (ahead_blocks l.fn.ahead) b;
  passed : (src : Sources) → drop l.left (ahead_cells src l.ahead) ≡ drop l.fn.count (ahead_cells src l.fn.ahead);
  reads : Reads (ahead_blocks l.fn.ahead) l.fn.reader l.reader (Ok (tt {0}));
  hit : Hits {T = Unit {0}} {E = BlockFault} (HasItems l.fn.reader.cache 0 (l.fn.count + l.fn.reach) (ahead_items
      l.fn.ahead)) l.fn.reader l.reader
      (Ok tt);
  kept : (a : Entries) (n : ℕ) → HasItems a 0 (l.fn.count + n) (ahead_items l.fn.ahead)
      → HasItems a 0 (l.left + n) (ahead_items l.ahead);
  known : IsTrue (g.S.Store.tells l.fn.reader.store) → IsKnown (g.S.Store.reads l.fn.reader.store) l.known;
  read : IsTrue (g.S.Store.tells l.fn.reader.store)
      → AreWhole (g.S.Store.reads l.fn.reader.store) (ahead_blocks l.fn.ahead)
      → Running l.all l.fn.count l.left
      (samples_among (take l.left (ahead_cells (sources_of (g.S.Store.reads l.fn.reader.store)) l.ahead)))
      (samples_among (take l.fn.count
      (ahead_cells (sources_of (g.S.Store.reads l.fn.reader.store)) l.fn.ahead)));
}

abbrev pub decreases-stretches : goal.decreases-stretches
decreases-stretches g l = l.left
