-- Names that several proofs of this crate use, from where they are declared.
pub use Rattle.block_cache.proofs.CacheLaws.{same_none}
pub use Rattle.block_cache.proofs.ReaderLaws.{reads_err, reads_more, reads_none, reads_ok, reads_then, told_on}
pub use Rattle.block_cache.specs.Caches.{Entries, HasFrames, HasSamples, SameCache}
pub use Rattle.block_cache.specs.{declared.reader.BlockReader.BlockReader, Readers.Hits, Readers.Reads}
pub use Rattle.block_store.proofs.StretchLaws.{length-part}
pub use Rattle.block_store.specs.declared.fault.BlockFault.{BlockFault}
pub use Rattle.block_store.specs.declared.frames.Level.{Level, TheVariants.Long, TheVariants.Short}
pub use Rattle.block_store.specs.{Reads.frame_len, Scans.samples_among}
pub use Rattle.clip_track.specs.Items.{item_len, part_of_item, strip_blocks, strip_cells}
pub use Rattle.clip_track.specs.declared.{items.Item.Item, rest.Stretch.Stretch, rest.Stretch.TheVariants.Block}
pub use Rattle.clip_track.specs.{Rests.stretch_item, Clips.layout_blocks, Clips.layout_cells}
pub use Rattle.disk_model.specs.{Disk.Files, declared.store.Store.Ghosts}
pub use Rattle.envelope_view.specs.Ahead.{IsInBlock, ahead_blocks, ahead_cells, ahead_items, stretch_blocks}
pub use Rattle.envelope_view.specs.Ahead.{stretch_cells, stretch_len}
pub use Rattle.envelope_view.specs.{Halves.IsKnown, Named.AreWhole, Parts.IsSum, Kept.HasItems, Kept.HasPart}
pub use Rattle.pcm_base.proofs.Exits.{exit_err}
pub use Rattle.pcm_base.specs.declared.{block.BlockRef.BlockRef, sound.Cell.Cell}
pub use Rattle.pcm_base.specs.{Arithmetic.counted_from, Edits.part, Pieces.Sources, Envelope.edge, Envelope.scan_of}
pub use Rattle.peak_summary.proofs.Joins.{joined_two}
pub use Rattle.peak_summary.specs.Peaks.{AreSamples, frame_count, frames_of, joined, nothing, summary_of}
pub use Rattle.peak_summary.specs.declared.stretch.Summary.{Summary}
pub use Rattle.sample_block.proofs.BlockLaws.{blocks_have}
pub use Rattle.sample_block.specs.{Blocks.blocks, Sources.AllWhole, Sources.IsNamed, Sources.IsWhole}
pub use Rattle.sample_block.specs.{Sources.sources_of}
pub use Rattle.std.proofs.Common.{Err, List, Ok, Option, Result, Some, [], ap, ap₂, arith, drop, inl, inr, length}
pub use Rattle.std.proofs.Common.{length-drop, map, min, refl, subst, suc, sym, take, true, zero, ℕ, ℤ, ◌*◌, ◌++◌, ◌+◌}
pub use Rattle.std.proofs.Common.{◌-◌, ◌/◌, ◌<◌, ◌^◌, ◌∙◌, ◌∷◌, ◌≡◌, ◌≤◌}
pub use Rattle.std.proofs.lemmas.List.{drop-drop, take_rest, Elements.All-drop, Elements.All-nil, Elements.All-take}
pub use Rattle.std.proofs.lemmas.{Grind.common_steps, Bool.cases_lt, Bool.false≢true}
pub use Rattle.std.specs.{Int.w16, Prelude.Contains, Prelude.FitsSigned, Prelude.IsTrue, Prelude.fold}
