-- The samples so far are those of the first pieces, and nothing of the disk has changed.
use Rattle.std.proofs.Common.{◌≡◌, ◌+◌, ◌++◌, ℤ, List, take, drop, length}
use Rattle.std.specs.Prelude.{IsTrue}
use Rattle.pcm_base.specs.Pieces.{total}
use Rattle.block_store.specs.{Reads.IsCompared, declared.fault.BlockFault.BlockFault}
use Rattle.disk_model.specs.Frames.{Kept}
use Rattle.block_writer.specs.{Bringers.StillBrings, Reading.AllReadable, Reading.AllThere, Reading.IsFaultAmong}
use Rattle.block_writer.proofs.BringLaws.{EachPart}
use Rattle.block_writer.proofs.pieces.read_pieces.Given as goal

abbrev pub invariant-pieces : goal.invariant-pieces
invariant-pieces g l = record {
  left : l.done + total (drop l.piece-index l.pieces) ≡ length l.out;
  ok : AllReadable (g.G.Brings.brings l.fn.given).count (drop l.piece-index l.pieces);
  kept : Kept g.S.Store l.fn.store l.store;
  still : StillBrings g.G.Brings l.fn.given l.given;
  compared : IsTrue (g.S.Store.tells l.fn.store) → IsCompared (g.S.Store.reads l.fn.store) l.last;
  count : g.S.Store.read_fault_count l.store ≡ g.S.Store.read_fault_count l.fn.store;
  changes : g.S.Store.change_fault_count l.store ≡ g.S.Store.change_fault_count l.fn.store;
  brought : g.G.Brings.fault_count l.given ≡ g.G.Brings.fault_count l.fn.given;
  rest_there : AllThere (g.S.Store.reads l.fn.store) l.pieces
      → AllThere (g.S.Store.reads l.fn.store) (drop l.piece-index l.pieces);
  rest_fault : (why : BlockFault) → IsFaultAmong (g.S.Store.reads l.fn.store) (drop l.piece-index l.pieces) why
      → IsFaultAmong (g.S.Store.reads l.fn.store) l.pieces why;
  read : IsTrue (g.S.Store.tells l.fn.store) → AllThere (g.S.Store.reads l.fn.store) l.pieces → (rest : List ℤ)
      → EachPart (g.G.Brings.brings l.fn.given) (g.S.Store.reads l.fn.store) (drop l.piece-index l.pieces) rest
      → EachPart (g.G.Brings.brings l.fn.given) (g.S.Store.reads l.fn.store) l.pieces (take l.done l.out ++ rest);
}
