-- Names that several proofs of this crate use, from where they are declared.
pub use Rattle.block_cache.proofs.CacheLaws.{same_none}
pub use Rattle.block_cache.proofs.ReaderLaws.{reads_err, reads_more, reads_none, reads_then, told_on}
pub use Rattle.block_cache.specs.{Caches.Entries, Caches.HasSamples, Readers.Hits, Readers.Reads}
pub use Rattle.block_sequence.proofs.Whole.{length-blocks}
pub use Rattle.block_store.{proofs.StretchLaws.length-part, specs.declared.fault.BlockFault.BlockFault}
pub use Rattle.cell_reader.specs.Kept.{HasBlocks, HasClips, HasRest}
pub use Rattle.cell_reader.specs.Rests.{IsRest, IsRestOf, rest_blocks, rest_cells}
pub use Rattle.cell_reader.specs.declared.{places.View.View, rest.TrackRest.TrackRest}
pub use Rattle.cell_reader.specs.{Seen.Puts, Seen.place_in, Stored.stored_of, Stored.stored_on}
pub use Rattle.clip_track.proofs.{RestItems.first_of, Layouts.AreClips-next, Layouts.end_within}
pub use Rattle.clip_track.specs.Clips.{AreClips, IsLayout, cells_from, clip_end, end_of, layout_blocks, layout_cells}
pub use Rattle.clip_track.specs.declared.clips.Clip.{Clip}
pub use Rattle.disk_model.specs.Disk.{Files, bytes_of}
pub use Rattle.pcm_base.proofs.{Exits.exit_err, Pieces.length-stretch}
pub use Rattle.pcm_base.specs.declared.block.BlockRef.{BlockRef}
pub use Rattle.pcm_base.specs.declared.sound.Cell.{Cell, TheVariants.Gap, TheVariants.Sample}
pub use Rattle.pcm_base.specs.{Edits.part, Blocks.block_samples, Blocks.blocks_len, Pieces.Sources, Pieces.stretch}
pub use Rattle.sample_block.proofs.Laws.{length_samples}
pub use Rattle.sample_block.specs.Faults.{samples_in}
pub use Rattle.sample_block.specs.Sources.{AllNamed, AllWhole, IsWhole, samples_on}
pub use Rattle.std.proofs.Common.{List, Ok, [], ap, append-nil, append_assoc, ap₂, arith, drop, get_or, length}
pub use Rattle.std.proofs.Common.{length-append, length-drop, map, min, refl, subst, suc, sym, take, zero, ℕ, ℤ, ⊎_elim}
pub use Rattle.std.proofs.Common.{◌*◌, ◌++◌, ◌+◌, ◌-◌, ◌<◌, ◌∙◌, ◌∷◌, ◌≡◌, ◌≤◌}
pub use Rattle.std.proofs.lemmas.List.{Elements.Contains-append_left, Elements.Contains-append_right}
pub use Rattle.std.proofs.lemmas.List.{drop_all, drop_more, get_or-append_right, length-map, length-replicate}
pub use Rattle.std.proofs.lemmas.List.{length-take, map-append, nil_from_length, take_min}
pub use Rattle.std.proofs.lemmas.{Bool.cases_lt, Result.on_ok_weaker, Slice.take-put_mid}
pub use Rattle.std.specs.Prelude.{Contains, IsTrue, replicate}
