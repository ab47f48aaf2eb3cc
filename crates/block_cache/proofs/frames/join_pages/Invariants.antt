-- The frames so far are joined, and nothing of the disk has changed.
use Rattle.block_cache.proofs.Common.{◌≡◌, ◌<◌, ◌≤◌, ◌+◌, ◌-◌, length, [], ◌∷◌, IsTrue, bytes_of, Kept, HasHeader}
use Rattle.block_cache.proofs.Common.{stored_frames, frames_end, HasFrames, KeepsCache, SameCache}
use Rattle.std.specs.Prelude.{fold}
use Rattle.peak_summary.specs.Peaks.{joined, nothing}
use Rattle.block_cache.proofs.frames.join_pages.Given as goal

abbrev pub invariant-pages : goal.invariant-pages
invariant-pages g l = record {
  within : l.done ≤ l.count;
  kept : Kept g.S.Store l.fn.store l.store;
  faults : g.S.Store.read_fault_count l.store ≡ g.S.Store.read_fault_count l.fn.store;
  cache : KeepsCache (g.S.Store.tells l.fn.store) (g.S.Store.reads l.fn.store) (l.part.block ∷ []) l.fn.cache l.cache;
  hit : HasFrames l.fn.cache l.part.level l.part.block l.part.from l.count → (l.store ≡ l.fn.store)
      × SameCache l.fn.cache l.cache;
  header : IsTrue (g.S.Store.tells l.fn.store) → 0 < l.done
      → HasHeader l.part.block.id l.part.block.len (bytes_of (g.S.Store.reads l.fn.store l.part.block.id));
  whole : IsTrue (g.S.Store.tells l.fn.store) → 0 < l.done
      → frames_end l.part.once l.part.level l.part.block (l.part.from + l.done)
      ≤ length (bytes_of (g.S.Store.reads l.fn.store l.part.block.id));
  sum : IsTrue (g.S.Store.tells l.fn.store)
      → l.all ≡ fold joined nothing (stored_frames (bytes_of (g.S.Store.reads l.fn.store l.part.block.id)) l.part.level
      l.part.block.len l.part.from l.done);
}

abbrev pub decreases-pages : goal.decreases-pages
decreases-pages g l = l.count - l.done
