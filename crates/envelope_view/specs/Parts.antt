-- What reads of one block give.
use Rattle.std.specs.Prelude.{◌≡◌, ℕ, ◌-◌, ◌*◌, ℤ, List, [], ◌∷◌, length, Some, Result, IfOk, IsTrue}
use Rattle.disk_model.specs.declared.store.Store.{Ghosts}
use Rattle.pcm_base.specs.{declared.block.BlockRef.BlockRef, Edits.part}
use Rattle.sample_block.specs.Blocks.{blocks}
use Rattle.block_store.specs.{declared.fault.BlockFault.BlockFault, declared.frames.Level.Level, Reads.frame_len}
use Rattle.block_cache.specs.{declared.reader.BlockReader.BlockReader, Caches.Entries, Caches.HasFrames}
use Rattle.block_cache.specs.Readers.{Hits, Reads}
use Rattle.peak_summary.specs.{declared.stretch.Summary.Summary, Peaks.summary_of}
use Rattle.envelope_view.specs.Kept.{HasPart}

-- this is so of the samples of a block, where the store reports its bytes and the disk has the block
abbrev pub OfBlock : {D : Type 0} {disk : Ghosts D} → BlockReader D disk → BlockRef → (List ℤ → Type 0) → Type 0
OfBlock {disk = disk} reader b is = IsTrue (disk.tells reader.store) → (xs : List ℤ)
    → blocks (disk.reads reader.store) b.id ≡ Some xs → length xs ≡ b.len → is xs

-- Reads of a block with this answer. Where the cache has the pages that they want they are Ok and ask the store
-- nothing.
-- Of a block of the disk the value is what its samples say.
pub record ReadsBlock {D T : Type 0} {disk : Ghosts D} (b : BlockRef) (has : Entries → Type 0)
    (is : List ℤ → T → Type 0) (old new : BlockReader D disk) (result : Result T BlockFault) : Type 0 where
  pub reads : Reads (b ∷ []) old new result
  pub hit : Hits (has old.cache) old new result
  pub read : OfBlock old b (λ xs. IfOk result (is xs))

-- the summary of samples from one place up to another
abbrev pub IsSum : (from to : ℕ) → List ℤ → Summary → Type 0
IsSum from to xs s = s ≡ summary_of (part from to xs)

-- it is read, of pages up to this end
abbrev pub Sums : {D : Type 0} {disk : Ghosts D} → BlockRef → (from to end : ℕ) → (old new : BlockReader D disk)
    → Result Summary BlockFault → Type 0
Sums b from to end = ReadsBlock b (λ c. HasPart c b from end) (IsSum from to)

-- that of the samples of whole frames of a level, from one number up to another
abbrev pub SumsFrames : {D : Type 0} {disk : Ghosts D} → BlockRef → Level → (first end : ℕ)
    → (old new : BlockReader D disk) → Result Summary BlockFault → Type 0
SumsFrames b l first end =
    ReadsBlock b (λ c. HasFrames c l b first (end - first)) (IsSum (frame_len l * first) (frame_len l * end))
