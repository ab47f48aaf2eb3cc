-- What reads of blocks leave of a store and its cache.
use Rattle.std.specs.Prelude.{◌≡◌, IsTrue, IsOk, List, Result, IfErr}
use Rattle.disk_model.specs.{Frames.Kept, declared.store.Store.Ghosts}
use Rattle.pcm_base.specs.declared.block.BlockRef.{BlockRef}
use Rattle.block_store.specs.{declared.fault.BlockFault.BlockFault, Reads.Counted, Reads.IsFaultIn}
use Rattle.block_cache.specs.{declared.reader.BlockReader.BlockReader, Caches.KeepsCache, Caches.SameCache}

-- Reads of these blocks with this answer: nothing of the disk changes, a failed read is counted where the disk refuses,
-- entries come of these blocks alone, and the file of one of them is at fault where it is not the disk. What was right
-- of the files is right by the reader's own fact.
pub record Reads {D T : Type 0} {disk : Ghosts D} (bs : List BlockRef) (old new : BlockReader D disk)
    (result : Result T BlockFault) : Type 0 where
  pub kept : Kept disk old.store new.store
  pub faults : Counted result (disk.read_fault_count old.store) (disk.read_fault_count new.store)
  pub cache : KeepsCache (disk.tells old.store) (disk.reads old.store) bs old.cache new.cache
  pub damaged : IsTrue (disk.tells old.store) → IfErr result (λ e. IsFaultIn (disk.reads old.store) bs e)

-- Where all pages that reads want are there, they are Ok whatever the store would answer, and the store is not called:
-- it is the same value, and no entry comes or goes.
abbrev pub Hits : {D T E : Type 0} {disk : Ghosts D} (has : Type 0) (old new : BlockReader D disk) (result : Result T E)
    → Type 0
Hits has old new result = has → IsOk result × (new.store ≡ old.store) × SameCache old.cache new.cache
