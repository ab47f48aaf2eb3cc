-- Names that several proofs of this crate use, from where they are declared.
pub use Rattle.block_cache.specs.{Caches.Entries, Caches.HasFrames, Caches.HasSamples, Caches.IsCacheOf}
pub use Rattle.block_cache.specs.{Caches.IsCacheWithout, Caches.KeepsCache, Caches.SameCache, Caches.entries_of}
pub use Rattle.block_cache.specs.{Caches.lists_of, Caches.no_entries}
pub use Rattle.block_cache.specs.{Pages.IsFramePage, Pages.IsPage, Pages.IsSamplePage, Pages.frame_key}
pub use Rattle.block_cache.specs.{Pages.frames_end, Pages.page_end, Pages.page_len, Pages.sample_key, Caches.AllPass}
pub use Rattle.block_cache.specs.{declared.keys.PageKey.PageKey, Entries.HasKey, Entries.SameEntries, Pages.HasPart}
pub use Rattle.block_store.proofs.{FaultLaws.valid_result, FrameLaws.frames_within, PieceLaws.samples_on}
pub use Rattle.block_store.specs.Reads.{HasHeader, frame_len, level_place, stored_frames}
pub use Rattle.block_store.specs.declared.frames.Level.{Level, TheVariants.Long, TheVariants.Short}
pub use Rattle.disk_model.proofs.Frames.{kept_none, kept_turn, tells_on}
pub use Rattle.disk_model.specs.{Frames.Kept, declared.store.Store.Ghosts, Disk.Files, Disk.bytes_of}
pub use Rattle.lru.proofs.Splits.{Contains-cons, Contains-head, Contains-nil, Contains-tail}
pub use Rattle.pcm_base.specs.declared.block.BlockRef.{BlockRef}
pub use Rattle.peak_summary.specs.{Peaks.frame_count, declared.stretch.Summary.Summary}
pub use Rattle.sample_block.specs.{Faults.samples_in, Spelling.size_of}
pub use Rattle.std.proofs.Common.{Bool, Contains, List, Option, [], ap, arith, drop, false, inl, inr, length}
pub use Rattle.std.proofs.Common.{length-drop, min, refl, subst, sym, take, true, ℕ, ℤ, ⊎_elim, ◌%◌, ◌*◌, ◌++◌, ◌+◌}
pub use Rattle.std.proofs.Common.{◌-◌, ◌/◌, ◌<◌, ◌∙◌, ◌∷◌, ◌≡◌, ◌≤◌, ◌⊎◌}
pub use Rattle.std.proofs.lemmas.Grind.{common_steps}
pub use Rattle.std.specs.Prelude.{Err, IsTrue, Ok, Result, ◌≢◌}
