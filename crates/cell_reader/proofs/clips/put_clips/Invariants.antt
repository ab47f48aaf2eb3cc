-- The clips so far are put, and nothing of the disk has changed.
use Rattle.cell_reader.proofs.Common.{BlockFault, HasClips, ◌≡◌, List, drop, Ok, IsTrue, Contains, BlockRef, AreClips}
use Rattle.cell_reader.proofs.Common.{end_of, cells_from, layout_blocks, Hits, Reads, AllNamed, Puts, stored_of}
use Rattle.cell_reader.proofs.clips.put_clips.Given as goal

abbrev pub invariant-rows : goal.invariant-rows
invariant-rows g l = record {
  apart : AreClips l.at (drop l.clip-index l.clips);
  same_end : end_of l.at (drop l.clip-index l.clips) ≡ end_of l.start l.clips;
  named : AllNamed (layout_blocks (drop l.clip-index l.clips));
  reads : Reads (layout_blocks l.clips) l.fn.reader l.reader (Ok (tt {0}));
  hit : Hits {E = BlockFault} (HasClips l.fn.reader.cache l.view l.clips) l.fn.reader l.reader (Ok (tt {0}));
  kept : HasClips l.fn.reader.cache l.view l.clips → HasClips l.fn.reader.cache l.view (drop l.clip-index l.clips);
  among : (b : BlockRef) → Contains (layout_blocks (drop l.clip-index l.clips)) b → Contains (layout_blocks l.clips) b;
  stored : IsTrue (g.S.Store.tells l.fn.reader.store) → (new : List g.row.T.Denot)
      → Puts g.T.FromCell.made l.view l.at
      (cells_from (stored_of (g.S.Store.reads l.fn.reader.store)) l.at (drop l.clip-index l.clips)) l.out new
      → Puts g.T.FromCell.made l.view l.start (cells_from (stored_of (g.S.Store.reads l.fn.reader.store)) l.start l.clips) l.fn.out new;
}
