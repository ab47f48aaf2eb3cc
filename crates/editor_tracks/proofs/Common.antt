-- Names that several proofs of this crate use, from where they are declared.
pub use Rattle.block_writer.specs.Bringing.{brought, brought_by, brought_count}
pub use Rattle.block_writer.specs.declared.given.Given.TheVariants.{Nothing}
pub use Rattle.clip_track.proofs.Layouts.{length-layout}
pub use Rattle.clip_track.specs.Clips.{IsLayout, end_of, layout_blocks, layout_cells}
pub use Rattle.clip_track.specs.Items.{AreItems, strip_blocks, strip_cells, strip_len}
pub use Rattle.clip_track.specs.declared.clips.Clip.{Clip}
pub use Rattle.clip_track.specs.declared.items.Item.{Item, TheVariants.Gap, TheVariants.Sound}
pub use Rattle.disk_model.{proofs.Frames.Fewer, specs.declared.store.Store.Ghosts}
pub use Rattle.edit_ops.specs.Plans.{AllNewFrom, AreNew, AreOldOrNew, AreWritten, Means, Start, ref_of}
pub use Rattle.edit_ops.specs.Runs.{AreClips, AreCopies, AreCuts, ArePastes, clipboard_tests, copy_tests, longest_of}
pub use Rattle.edit_ops.specs.Runs.{start_behind}
pub use Rattle.edit_ops.specs.declared.types.{NewBlock.NewBlock, Plan.Plan}
pub use Rattle.editor_blocks.proofs.PlanBlocks.{all_readable, ids_clips, new_from_more, old_or_new}
pub use Rattle.editor_blocks.proofs.{LayoutBlocks.new_in, StudioBlocks.point_more, StudioBlocks.refs}
pub use Rattle.editor_blocks.proofs.{StudioBlocks.refs_ids}
pub use Rattle.editor_commits.proofs.TrackChanges.{current_is, lacks_is, valid_of}
pub use Rattle.editor_commits.proofs.{CurrentProject.old_names}
pub use Rattle.editor_commits.proofs.{CursorTracks.current_may_read, CurrentProject.current_valid}
pub use Rattle.editor_state.proofs.Refusals.DamageTests.{TellsNone, either_tells, lacks_tells, tests_tell}
pub use Rattle.editor_state.proofs.{Blocks.BlockLists.among_itself, Lists.all_left, Lists.all_right, Lists.all_so}
pub use Rattle.editor_state.specs.{Core.Core, Points.lacks, Reads.HasLayout, declared.planned.Planned.Planned}
pub use Rattle.editor_state.specs.{Edits.alone, Edits.beside, Edits.blocks_with, Edits.clip_behind, Edits.clip_then}
pub use Rattle.editor_state.specs.{Edits.outside_at, Edits.tagged_by}
pub use Rattle.editor_state.specs.{Studios.IsGiven, Studios.IsStudio, Studios.MayPaste, Studios.clip_blocks}
pub use Rattle.editor_state.specs.{Studios.clip_cells, Studios.named_blocks, Studios.pin_blocks, Studios.studio_by}
pub use Rattle.editor_state.specs.{Studios.studio_of, Edits.AreAmong, Edits.IsEdit, Edits.IsEditCall, Edits.IsPlanned}
pub use Rattle.editor_state.specs.{Took.Took, Took.quietly, Took.silent, Took.with_sound, Studios.IsClipboard}
pub use Rattle.editor_tracks.specs.Copies.{Copies, run_of, strips_blocks}
pub use Rattle.editor_tracks.specs.RunEdits.{laid_from, made_by}
pub use Rattle.editor_tracks.specs.TrackEdits.{IsTrackCall, IsTrackPlan, NoTrackPlan, TrackEdit, plan_start}
pub use Rattle.editor_tracks.specs.TrackEdits.{track_command, track_refusal, with_layout}
pub use Rattle.editor_tracks.specs.{Cuts.cut_line}
pub use Rattle.editor_tracks.specs.{Pastes.NoPastePlan, declared.run_range.RunRange.RunRange, Cuts.NoCutPlan}
pub use Rattle.envelope_view.specs.Answers.{IsUndamaged}
pub use Rattle.layout_uses.specs.Drawing.{HasNumbers}
pub use Rattle.pcm_base.specs.{Cells.changed_at, Cells.edited_at, Cells.longest, Cells.run_edited, Cells.tracks_from}
pub use Rattle.pcm_base.specs.{Cells.with_cells, Refusals.bad_range, Refusals.call_tests, Refusals.is_empty}
pub use Rattle.pcm_base.specs.{Counters.EditNeeds, Counters.layouts_of, History.edited, History.recorded, Run.outside}
pub use Rattle.pcm_base.specs.{Outside.Outside, Pieces.Sources, Shape.paste_line, Sizes.blocks_of_tracks}
pub use Rattle.pcm_base.specs.{Refusals.length_limit, Refusals.placed_length, Refusals.refused_if, Refusals.too_narrow}
pub use Rattle.pcm_base.specs.{Refusals.◌otherwise◌, declared.block.BlockRef.BlockRef, declared.command.Call.Call}
pub use Rattle.pcm_base.specs.{Run.stop_of, Step.after, Step.copied, Edits.placed, Edits.range_of, Edits.removed}
pub use Rattle.pcm_base.specs.{State.State, State.clip_of, State.current, Cells.Project, Cells.cells_at}
pub use Rattle.pcm_base.specs.{declared.command.Call.TheVariants.Line, declared.edits.Placing.Placing}
pub use Rattle.pcm_base.specs.{declared.edits.Removing.Removing, declared.entry.SoundMove.SoundMove}
pub use Rattle.pcm_base.specs.{declared.piece.Piece.TheVariants.Given, declared.piece.Piece.TheVariants.Old}
pub use Rattle.pcm_base.specs.{declared.piece.Piece.TheVariants.Scaled, declared.piece.Piece.TheVariants.Zero}
pub use Rattle.pcm_base.specs.{declared.refusal.Refusal.Refusal, declared.sound.Cell.Cell}
pub use Rattle.project_state.proofs.MeantHistories.{meant_recorded}
pub use Rattle.project_state.specs.Meaning.{history_blocks, meant, meant_history, meant_track, point_blocks}
pub use Rattle.project_state.specs.{declared.track.Track.Track, Tracks.AreAbove, Tracks.track_of}
pub use Rattle.record_body.proofs.SavedBounds.{all_append}
pub use Rattle.record_body.specs.{Saved.current_tracks, SavedValid.IsValidPoint, Valid.AllValidTracks}
pub use Rattle.record_body.specs.{Valid.IsValidTrack}
pub use Rattle.sample_block.specs.Sources.{AllNamed, IsNamed, samples_on}
pub use Rattle.std.proofs.Common.{Bool, Contains, Err, List, None, Ok, Option, Some, [], ap, arith, false, get_or}
pub use Rattle.std.proofs.Common.{if◌then◌else◌, inl, inr, length, length-append, map, nat_le, nat_lt, not, refl}
pub use Rattle.std.proofs.Common.{replicate, rules, subst, suc, sym, take, true, zero, ℕ, ℤ, ⊎_elim, ◌&&◌, ◌*◌, ◌++◌}
pub use Rattle.std.proofs.Common.{◌+◌, ◌<◌, ◌==◌, ◌^◌, ◌∙◌, ◌∷◌, ◌≡◌, ◌≤◌, ◌⊎◌}
pub use Rattle.std.proofs.lemmas.Bool.{le-leb, lt-leb, ne_eqb, Decides.eqb_tells, Decides.leb_tells}
pub use Rattle.std.proofs.lemmas.{Option.none-some, List.append-nil, List.length-map, List.map-append}
pub use Rattle.std.specs.{List.AllByRecursion, Prelude.unwrap_or}
