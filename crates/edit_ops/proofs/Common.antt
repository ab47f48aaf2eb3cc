-- Names that several proofs of this crate use, from where they are declared.
pub use Rattle.block_sequence.specs.Laid.{AllMade, all_laid_samples, parts, sizes}
pub use Rattle.block_sequence.specs.Origins.{AllFrom, AllLaidFrom, IsFrom}
pub use Rattle.block_sequence.specs.declared.types.Laid.{Laid, TheVariants.Keep, TheVariants.Make}
pub use Rattle.block_sequence.specs.{Room.First, Fuse.AllShort, Fuse.added, Fuse.made_count}
pub use Rattle.clip_track.proofs.{Layouts.ItemsFit-gap, Layouts.strip_cells-gap, ShortStrips.ItemsShort-append}
pub use Rattle.clip_track.proofs.{RoughStrips.rough_back, RoughStrips.rough_front, RoughStrips.rough_middle}
pub use Rattle.clip_track.proofs.{RoughStrips.rough_only_gap, RoughStrips.rough_three, Strips.ItemsFit-append}
pub use Rattle.clip_track.proofs.{ShortStrips.ItemsShort-part, ShortStrips.short_gap, RoughStrips.rough-append}
pub use Rattle.clip_track.proofs.{Strips.ItemsFit-part, Strips.length-strip_cells, Strips.part_none, Strips.part_past}
pub use Rattle.clip_track.proofs.{Strips.part_within, Strips.strip_cells-append, Strips.strip_cells-part}
pub use Rattle.clip_track.specs.Clips.{AllHalfFull, clip_end, end_of, items_from, layout_blocks, sound_items}
pub use Rattle.clip_track.specs.Items.{AreItems, IsItem, ItemsFit, gap_items, item_len, part_items, part_of_item}
pub use Rattle.clip_track.specs.Items.{strip_blocks, strip_cells, strip_len}
pub use Rattle.clip_track.specs.declared.clips.Clip.{Clip}
pub use Rattle.clip_track.specs.declared.items.Item.{Item, TheVariants.Gap, TheVariants.Sound}
pub use Rattle.clip_track.specs.{Room.room_from, Room.strip_room, Rough.ItemsShort, Rough.rough_from, Rough.rough_items}
pub use Rattle.edit_ops.specs.{Changes.piece_change, Runs.AllTracksHalfFull, Runs.AreCopies, Runs.AreCuts, Runs.IsCut}
pub use Rattle.edit_ops.specs.{LaidClips.ClipsFrom, LaidClips.clips_new_blocks, LaidClips.laid_cells}
pub use Rattle.edit_ops.specs.{LaidClips.laid_end, LaidClips.laid_len, LaidClips.made_clips, LaidClips.named}
pub use Rattle.edit_ops.specs.{LaidClips.new_blocks, LaidClips.next_after, declared.changing.Change.Change}
pub use Rattle.edit_ops.specs.{Plans.AreWritten, Plans.run_start_of, Changes.cell_change, Changes.item_change}
pub use Rattle.edit_ops.specs.{Runs.IsPaste, Runs.layouts, Runs.lengths_of, Runs.longest_of, LaidClips.AreLaidClips}
pub use Rattle.edit_ops.specs.{Strips.IsItemFrom, Strips.IsOld, Strips.ItemsFrom, Strips.cut_cells, Strips.cut_items}
pub use Rattle.edit_ops.specs.{Strips.front_items, Strips.given_items, Strips.only_part, Strips.rest_items}
pub use Rattle.edit_ops.specs.{Strips.with_change, Strips.with_gaps, Strips.with_inserted, Strips.without}
pub use Rattle.edit_ops.specs.{declared.changing.Change.TheVariants.Gain, declared.changing.Change.TheVariants.Silence}
pub use Rattle.edit_ops.specs.{declared.strips.Cutting.Cutting, declared.strips.Cutting.TheVariants.Delete}
pub use Rattle.edit_ops.specs.{declared.strips.Cutting.TheVariants.SplitDelete}
pub use Rattle.edit_ops.specs.{declared.strips.Cutting.TheVariants.Trim, declared.types.LaidClip.LaidClip}
pub use Rattle.edit_ops.specs.{declared.types.NewBlock.NewBlock, declared.types.Plan.Plan, Strips.AllOld, Strips.IsClip}
pub use Rattle.pcm_base.proofs.Pieces.{length-all_samples}
pub use Rattle.pcm_base.specs.Edits.{emptied, part, placed, range_of, removed}
pub use Rattle.pcm_base.specs.Pieces.{Sources, all_samples, piece_len, stretch}
pub use Rattle.pcm_base.specs.Refusals.{length_limit, placed_length, too_narrow}
pub use Rattle.pcm_base.specs.declared.piece.Piece.TheVariants.{Given, Old, Scaled, Zero}
pub use Rattle.pcm_base.specs.declared.piece.Piece.{Piece}
pub use Rattle.pcm_base.specs.declared.{block.BlockRef.BlockRef, edits.Placing.Placing, sound.Cell.Cell}
pub use Rattle.pcm_base.specs.{Blocks.IsHalfFull, Cells.continued, Cells.trimmed, Sizes.clip_count, Sizes.sample_count}
pub use Rattle.std.proofs.Common.{List, None, [], ap, append_assoc, ap₂, arith, drop, false, get_or, inl, inr, length}
pub use Rattle.std.proofs.Common.{length-append, length-drop, map, min, pos, refl, replicate, subst, suc, sym, take}
pub use Rattle.std.proofs.Common.{true, zero, ℕ, ℤ, ◌*◌, ◌++◌, ◌+◌, ◌-◌, ◌/◌, ◌<◌, ◌^◌, ◌∙◌, ◌∷◌, ◌≡◌, ◌≤◌}
pub use Rattle.std.proofs.lemmas.{Bool.cases_lt, List.Elements.Contains-append_left}
pub use Rattle.std.proofs.lemmas.{List.Elements.Contains-append_right, List.append-nil, List.drop_all, List.drop_more}
pub use Rattle.std.proofs.lemmas.{List.length-replicate, List.take-append-le, List.take_all, List.take_more}
pub use Rattle.std.specs.{Prelude.Contains, Vec.Iter.into_iter_items}
