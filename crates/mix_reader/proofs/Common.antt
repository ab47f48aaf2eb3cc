-- Names that several proofs of this crate use, from where they are declared.
pub use Rattle.block_cache.proofs.CacheLaws.{same_none, same_turn}
pub use Rattle.block_cache.proofs.ReaderLaws.{reads_err, reads_more, reads_none, reads_ok, reads_then, told_on}
pub use Rattle.block_cache.specs.{Readers.Reads, Caches.Entries, Caches.SameCache}
pub use Rattle.cell_reader.proofs.SeenLaws.{named_front, valid_in}
pub use Rattle.cell_reader.proofs.{KeptLaws.seen_part, PartLists.drop_front, PartLists.take_front}
pub use Rattle.cell_reader.specs.{Rests.IsRestOf, Stored.stored_of}
pub use Rattle.clip_track.specs.Clips.{layout_blocks, layout_cells}
pub use Rattle.disk_model.specs.Disk.{Files}
pub use Rattle.mix_reader.specs.Heard.{HasHeard, heard_count, heard_gains, heard_sides}
pub use Rattle.mix_reader.specs.Tracks.{heard_tracks, mix_length_of, track_gains, track_sides}
pub use Rattle.mix_reader.specs.{Readers.AreRestsOf, declared.passes.TrackPass.TrackPass}
pub use Rattle.mixdown.specs.Stretches.{AreStretches, IsStretch, gains_of, sides_of}
pub use Rattle.pcm_base.proofs.Exits.{exit_err}
pub use Rattle.pcm_base.specs.Mix.{frame_at, mix_length, mix_of, unmuted}
pub use Rattle.pcm_base.specs.declared.sound.{Cell.Cell, Frame.Frame, Side.Side}
pub use Rattle.pcm_base.specs.{Arithmetic.counted_from, Cells.Project, Pieces.Sources}
pub use Rattle.project_state.proofs.Points.{drop_some, take_some}
pub use Rattle.project_state.specs.{Meaning.point_blocks}
pub use Rattle.project_state.specs.{declared.track.Track.Track, Meaning.meant, Meaning.meant_track}
pub use Rattle.sample_block.specs.Sources.{AllNamed}
pub use Rattle.std.proofs.Common.{Bool, List, Ok, Some, [], ap, arith, drop, false, get_or, length, length-drop, map}
pub use Rattle.std.proofs.Common.{max, min, refl, slice_get, subst, suc, sym, take, true, zero, ℕ, ℤ, ◌*◌, ◌++◌, ◌+◌}
pub use Rattle.std.proofs.Common.{◌-◌, ◌<◌, ◌∙◌, ◌∷◌, ◌≡◌, ◌≤◌}
pub use Rattle.std.proofs.Math.Nat.{mul-le-mul_right}
pub use Rattle.std.proofs.lemmas.List.{drop-drop, drop_all, length-set, length-take, map-append, take_all}
pub use Rattle.std.specs.Prelude.{IsTrue, if◌then◌else◌}
