-- The columns so far, what is left, and that nothing of the disk has changed.
use Rattle.envelope_view.proofs.Common.{◌≡◌, ◌+◌, ◌-◌, drop, map, Ok, IsTrue, Contains, AllWhole, sources_of, Hits}
use Rattle.envelope_view.proofs.Common.{Reads, BlockFault, ahead_items, HasItems, edge, scan_of, counted_from, part}
use Rattle.envelope_view.proofs.Common.{Sources, BlockRef, layout_blocks, layout_cells, IsInBlock, ahead_blocks}
use Rattle.envelope_view.proofs.Common.{ahead_cells, IsKnown}
use Rattle.envelope_view.specs.{Kept.HasColumns}
use Rattle.envelope_view.proofs.scanning.scan_columns.Given as goal

abbrev pub invariant-rows : goal.invariant-rows
invariant-rows g l = record {
  begin : l.begin ≡ edge l.from l.to l.columns l.i;
  stretch : IsInBlock l.ahead.stretch;
  blocks : (b : BlockRef) → Contains (ahead_blocks l.ahead) b → Contains (layout_blocks l.layout) b;
  cells : (src : Sources) → ahead_cells src l.ahead ≡ drop (edge l.from l.to l.columns l.i) (layout_cells src l.layout);
  reads : Reads (layout_blocks l.layout) l.fn.reader l.reader (Ok (tt {0}));
  hit : Hits {T = Unit {0}} {E = BlockFault} (HasColumns l.fn.reader.cache l.from l.to l.layout) l.fn.reader l.reader
      (Ok tt);
  kept : HasColumns l.fn.reader.cache l.from l.to l.layout
      → HasItems l.fn.reader.cache 0 (l.to - edge l.from l.to l.columns l.i) (ahead_items l.ahead);
  known : IsTrue (g.S.Store.tells l.fn.reader.store) → IsKnown (g.S.Store.reads l.fn.reader.store) l.known;
  read : IsTrue (g.S.Store.tells l.fn.reader.store)
      → AllWhole (g.S.Store.reads l.fn.reader.store) (layout_blocks l.layout)
      → l.scans.items ≡ map (λ i. scan_of (part (edge l.from l.to l.columns i) (edge l.from l.to l.columns (i + 1))
      (layout_cells (sources_of (g.S.Store.reads l.fn.reader.store)) l.layout))) (counted_from 0 l.i);
}
