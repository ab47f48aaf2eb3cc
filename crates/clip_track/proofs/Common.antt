-- Names that several proofs of this crate use, from where they are declared.
pub use Rattle.block_sequence.proofs.HalfFull.{is_full-true}
pub use Rattle.block_sequence.specs.{Fuse.is_whole, Room.Behind, Room.First, Room.Stand, Room.Within}
pub use Rattle.clip_track.specs.{Clips.IsLayout, Clips.clip_end, Clips.end_of, Clips.items_from, Clips.layout_cells}
pub use Rattle.clip_track.specs.{Clips.sound_items, Items.AreItems, Items.IsItem, Items.ItemsFit, Items.gap_items}
pub use Rattle.clip_track.specs.{Items.item_len, Items.items_after, Items.part_items, Items.part_of_item}
pub use Rattle.clip_track.specs.{Items.strip_blocks, Items.strip_cells, Items.strip_len}
pub use Rattle.clip_track.specs.{Rests.left_items, Room.is_first, Room.strip_room, StripClips.clips_cells}
pub use Rattle.clip_track.specs.{Rough.rough_items, declared.clips.Clip.Clip, declared.items.Item.Item}
pub use Rattle.clip_track.specs.{StripClips.clips_end, Rough.ItemShort, Rough.ItemsShort, Rough.gap_next}
pub use Rattle.clip_track.specs.{declared.items.Item.TheVariants.Gap, declared.items.Item.TheVariants.Sound}
pub use Rattle.clip_track.specs.{declared.strip_clips.StripClip.StripClip, Clips.AllHalfFull, Clips.AreClips}
pub use Rattle.pcm_base.proofs.Pieces.{length-samples, piece_len-part}
pub use Rattle.pcm_base.specs.Blocks.{AllFull, IsHalfFull, NoneEmpty, block_lens, blocks_len}
pub use Rattle.pcm_base.specs.Pieces.{AllValid, Sources, all_samples, part_of, piece_len, samples_of, total}
pub use Rattle.pcm_base.specs.declared.piece.Piece.TheVariants.{Given, Old, Scaled, Zero}
pub use Rattle.pcm_base.specs.declared.piece.Piece.{Piece}
pub use Rattle.pcm_base.specs.declared.{block.BlockRef.BlockRef, sound.Cell.Cell}
pub use Rattle.std.proofs.Common.{Bool, List, [], ap, append_assoc, ap₂, arith, drop, false, get_or, if◌then◌else◌, inl}
pub use Rattle.std.proofs.Common.{inr, length, length-drop, map, min, refl, replicate, subst, suc, sym, take, true}
pub use Rattle.std.proofs.Common.{zero, ℕ, ℤ, ◌&&◌, ◌*◌, ◌++◌, ◌+◌, ◌-◌, ◌<◌, ◌||◌, ◌∙◌, ◌∷◌, ◌≡◌, ◌≤◌}
pub use Rattle.std.proofs.Math.Nat.{sub-zero}
pub use Rattle.std.proofs.lemmas.List.{append-nil, drop_more, map-append, take-append-le, take_all}
pub use Rattle.std.proofs.lemmas.{Result.on_ok_weaker, Bool.cases_Bool, Bool.cases_lt, Bool.le-leb, Bool.lt-leb}
pub use Rattle.std.specs.Prelude.{Contains}
