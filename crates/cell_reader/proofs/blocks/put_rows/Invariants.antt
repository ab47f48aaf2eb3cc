-- The rows so far are put, and nothing of the disk has changed.
use Rattle.cell_reader.proofs.Common.{BlockFault, HasBlocks, ◌≡◌, ◌+◌, List, drop, map, Ok, IsTrue, Contains}
use Rattle.cell_reader.proofs.Common.{block_samples, blocks_len, Sample, BlockRef, Hits, Reads, AllNamed, Puts}
use Rattle.cell_reader.proofs.Common.{stored_of}
use Rattle.block_sequence.specs.Rows.{flat}
use Rattle.cell_reader.proofs.blocks.put_rows.Given as goal

abbrev pub invariant-rows : goal.invariant-rows
invariant-rows g l = record {
  left : l.place + blocks_len (flat (drop l.row-index l.rows)) ≡ l.at + blocks_len (flat l.rows);
  named : AllNamed (flat (drop l.row-index l.rows));
  reads : Reads (flat l.rows) l.fn.reader l.reader (Ok (tt {0}));
  hit : Hits {E = BlockFault} (HasBlocks l.fn.reader.cache l.view l.at (flat l.rows)) l.fn.reader l.reader (Ok (tt {0}));
  kept : HasBlocks l.fn.reader.cache l.view l.at (flat l.rows)
      → HasBlocks l.fn.reader.cache l.view l.place (flat (drop l.row-index l.rows));
  among : (b : BlockRef) → Contains (flat (drop l.row-index l.rows)) b → Contains (flat l.rows) b;
  stored : IsTrue (g.S.Store.tells l.fn.reader.store) → (new : List g.row.T.Denot)
      → Puts g.T.FromCell.made l.view l.place
      (map Sample (block_samples (stored_of (g.S.Store.reads l.fn.reader.store)) (flat (drop l.row-index l.rows))))
      l.out new
      → Puts g.T.FromCell.made l.view l.at
      (map Sample (block_samples (stored_of (g.S.Store.reads l.fn.reader.store)) (flat l.rows))) l.fn.out new;
}
