-- The blocks so far are put, and nothing of the disk has changed.
use Rattle.cell_reader.proofs.Common.{BlockFault, HasBlocks, ◌≡◌, ◌+◌, List, drop, map, Ok, IsTrue, Contains}
use Rattle.cell_reader.proofs.Common.{block_samples, blocks_len, Sample, BlockRef, Hits, Reads, AllNamed, Puts}
use Rattle.cell_reader.proofs.Common.{stored_of}
use Rattle.cell_reader.proofs.blocks.put_blocks.Given as goal

abbrev pub invariant-rows : goal.invariant-rows
invariant-rows g l = record {
  left : l.place + blocks_len (drop l.block-index l.blocks) ≡ l.at + blocks_len l.blocks;
  named : AllNamed (drop l.block-index l.blocks);
  reads : Reads l.blocks l.fn.reader l.reader (Ok (tt {0}));
  hit : Hits {E = BlockFault} (HasBlocks l.fn.reader.cache l.view l.at l.blocks) l.fn.reader l.reader (Ok (tt {0}));
  kept : HasBlocks l.fn.reader.cache l.view l.at l.blocks
      → HasBlocks l.fn.reader.cache l.view l.place (drop l.block-index l.blocks);
  among : (b : BlockRef) → Contains (drop l.block-index l.blocks) b → Contains l.blocks b;
  stored : IsTrue (g.S.Store.tells l.fn.reader.store) → (new : List g.row.T.Denot)
      → Puts g.T.FromCell.made l.view l.place
      (map Sample (block_samples (stored_of (g.S.Store.reads l.fn.reader.store)) (drop l.block-index l.blocks)))
      l.out new
      → Puts g.T.FromCell.made l.view l.at
      (map Sample (block_samples (stored_of (g.S.Store.reads l.fn.reader.store)) l.blocks)) l.fn.out new;
}
