-- Names that several proofs of this crate use, from where they are declared.
pub use Rattle.block_cache.{proofs.CacheLaws.right_before, specs.Caches.AllPass, specs.Caches.Entries}
pub use Rattle.block_ledger.specs.{Counts.Counts, Entries.count_of}
pub use Rattle.block_store.specs.Reads.{IsFaultIn}
pub use Rattle.block_writer.proofs.BringLaws.{any_brought}
pub use Rattle.block_writer.specs.Bringing.{brought, brought_by, brought_count}
pub use Rattle.block_writer.specs.{declared.given.Given.TheVariants.Nothing, Brought.Brought, Brought.MayBring}
pub use Rattle.clip_track.specs.Clips.{AllHalfFull, layout_blocks}
pub use Rattle.clip_track.specs.Items.{AreItems, item_blocks, strip_blocks}
pub use Rattle.clip_track.specs.declared.{clips.Clip.Clip, items.Item.Item, items.Item.TheVariants.Gap}
pub use Rattle.disk_model.{proofs.Frames.tells_back, specs.declared.store.Store.Ghosts}
pub use Rattle.edit_ops.specs.declared.types.{NewBlock.NewBlock, Plan.Plan}
pub use Rattle.edit_ops.specs.{Plans.IsPlan, Plans.Means, Runs.AllTracksHalfFull, Runs.layouts}
pub use Rattle.editor_cleanup.proofs.HeaderPoints.{row, size_left, tagged}
pub use Rattle.editor_cleanup.proofs.{FirstIds.first_none, IdRemovals.long, SyncPass.Syncing}
pub use Rattle.editor_commits.proofs.{AppendFaults.settled, CommitFailures.fails, CurrentProject.current_below}
pub use Rattle.editor_commits.proofs.{CursorTracks.current_named, CursorTracks.current_whole}
pub use Rattle.editor_commits.proofs.{CursorTracks.layout_may_read, CursorTracks.layout_named}
pub use Rattle.editor_commits.proofs.{CursorTracks.layout_whole}
pub use Rattle.editor_commits.proofs.{RecordRows.whole_total, MoveSteps.moved, MoveSteps.tested_out, RowRoom.no_want}
pub use Rattle.editor_commits.proofs.{RowRoom.undamaged_settle, CursorTracks.current_may_read}
pub use Rattle.editor_core.specs.{Core.core_of, declared.assembly.Parts.Parts, Parts.AreParts, Parts.assembled}
pub use Rattle.editor_edits.proofs.KnownSamples.{known_took, planned_any}
pub use Rattle.editor_imports.proofs.ChannelTests.{channels_pass}
pub use Rattle.editor_imports.specs.Imports.{AreGrown, block_behind, total_of}
pub use Rattle.editor_state.proofs.Blocks.BlockNumbers.{few_more, named_there}
pub use Rattle.editor_state.proofs.Blocks.CachePages.{pages_of_blocks, reads_among, right_by_record}
pub use Rattle.editor_state.proofs.Calls.LookAnswers.{idle_looks, idle_sees, read_looks, read_sees, seen, unread_sees}
pub use Rattle.editor_state.proofs.Calls.VaultCalls.{lasts_idle, over_silent, spanned}
pub use Rattle.editor_state.proofs.Refusals.DamageTests.{TellsNone, undamaged_test}
pub use Rattle.editor_state.proofs.Refusals.EarlyRefusals.{none_made, wants}
pub use Rattle.editor_state.proofs.Refusals.VaultRefusals.{inside_counted, inside_or}
pub use Rattle.editor_state.specs.Bodies.{Writing, all_bytes, all_len, body_bytes, single, whole_len, writing}
pub use Rattle.editor_state.specs.{Adding.AddsDrawn, Adding.IsNoWant, Adding.Undrawn, Took.Took, Took.as_reply}
pub use Rattle.editor_state.specs.{Applied.TookOver, Core.Core, Core.form_at, Makes.RefusedBrought, Makes.Synced}
pub use Rattle.editor_state.specs.{Events.RanOver, Exports.moved_from, Reads.Sees, declared.pin.Pin.Pin, Applied.Lasts}
pub use Rattle.editor_state.specs.{Made.AllInOrder, Made.batch_of, Made.ids_from, Occurrences.AreSingle}
pub use Rattle.editor_state.specs.{Occurrences.HasIds, Occurrences.Names, Occurrences.Unnames, Studios.IsHeld}
pub use Rattle.editor_state.specs.{Points.lacks, Points.put_in, Edits.Carried, Edits.IsStill, Edits.NotPrepared}
pub use Rattle.editor_state.specs.{Studios.IsStudio, Studios.is_block, Studios.is_given, Vaults.IfCutShort}
pub use Rattle.editor_state.specs.{Took.freeing, Took.quietly, Took.silent, Took.with_sound}
pub use Rattle.editor_state.specs.{Vaults.IsInsideOr, Vaults.VaultCounted, Vaults.left_as, Adding.Adds, Adding.AddsBody}
pub use Rattle.editor_tracks.proofs.TrackPlans.{current_track, no_such_track, test_fails, track_next, track_planned}
pub use Rattle.editor_tracks.proofs.TrackSteps.{track_edit, track_refused, track_stopped}
pub use Rattle.editor_tracks.proofs.{CopyStrips.strip_flat, CutLaws.run_half_full, PlanDamage.no_plan_tells}
pub use Rattle.editor_tracks.specs.Copies.{run_of, strips_blocks}
pub use Rattle.editor_tracks.specs.RunEdits.{AreLayouts, laid_from, laid_or, made_by}
pub use Rattle.editor_tracks.specs.TrackEdits.{NoTrackPlan, with_layout}
pub use Rattle.editor_tracks.specs.declared.run_range.RunRange.{RunRange}
pub use Rattle.editor_tracks.specs.{Cuts.cut_line, Inserts.place_edit, Ranges.range_edit}
pub use Rattle.editor_views.proofs.UnpinSteps.{pin_may_read, pin_whole}
pub use Rattle.editor_views.proofs.{BufferFronts.view_front, MixViews.as_many, PinNumbers.around}
pub use Rattle.editor_views.specs.Pins.{LacksPin, MayFind}
pub use Rattle.envelope_view.specs.Answers.{IsUndamaged}
pub use Rattle.layout_uses.proofs.{Times.Few, Turns.all_here, Turns.named_on, Turns.next, Turns.there_here}
pub use Rattle.layout_uses.proofs.{Turns.unnamed_on}
pub use Rattle.layout_uses.specs.Layouts.{AreDrawn, AreNumbered, history_tracks}
pub use Rattle.layout_uses.specs.{Drawing.HasNumbers, declared.tally.Tally.Tally, Tallies.Becomes, Tallies.MayBecome}
pub use Rattle.mix_reader.specs.Heard.{HasHeard}
pub use Rattle.mixdown.specs.Loads.{cut_in}
pub use Rattle.pcm_base.proofs.Exits.{after_err, exit_err}
pub use Rattle.pcm_base.specs.{Counters.record_test, Mix.mix_of, Pieces.stretch, Step.line_of_track, Edits.as_cells}
pub use Rattle.pcm_base.specs.{Edits.inserted, Refusals.length_limit, Refusals.◌otherwise◌, History.History}
pub use Rattle.pcm_base.specs.{History.at_cursor, History.edited, History.points_of, History.tag_of}
pub use Rattle.pcm_base.specs.{declared.answer.Answer.Answer, declared.answer.Reply.Reply}
pub use Rattle.pcm_base.specs.{declared.answer.Reply.TheVariants.Done, declared.answer.Reply.TheVariants.Frames}
pub use Rattle.pcm_base.specs.{declared.block.BlockRef.BlockRef, declared.command.Call.Call}
pub use Rattle.pcm_base.specs.{declared.command.Call.TheVariants.Line, declared.command.Call.TheVariants.LoadPin}
pub use Rattle.pcm_base.specs.{declared.command.Call.TheVariants.ReadPin, declared.command.Command.Command}
pub use Rattle.pcm_base.specs.{declared.limits.TheConstants.LONGEST_BODY, declared.lists.LoadedTrack.LoadedTrack}
pub use Rattle.pcm_base.specs.{declared.refusal.Refusal.Refusal, declared.refusal.Refusal.TheVariants.BadRange}
pub use Rattle.pcm_base.specs.{declared.sound.Cell.Cell, declared.sound.Frame.Frame}
pub use Rattle.project_journal.specs.Journal.{AreWaiting, points_size}
pub use Rattle.project_state.proofs.Points.{drop_some, take_some}
pub use Rattle.project_state.specs.Tracks.{AllBelow, track_of}
pub use Rattle.project_state.specs.{Numbers.AgreeById, declared.track.Track.Track, Meaning.meant, Meaning.point_blocks}
pub use Rattle.record_body.proofs.{Agreeing.again_agrees, SavedBounds.all_append}
pub use Rattle.record_body.specs.Saved.{current_tracks, point_bytes}
pub use Rattle.record_body.specs.declared.body.Body.{Body, TheVariants.Edit}
pub use Rattle.record_body.specs.{Batches.with_point, Numbers.BodyAgrees, SavedValid.IsValidTagged, Spelling.spelling}
pub use Rattle.row_ledger.specs.Lists.{counts_of}
pub use Rattle.sample_block.specs.Sources.{AllNamed, AllWhole, sources_of}
pub use Rattle.sound_import.specs.Reading.{brought_from}
pub use Rattle.std.proofs.Common.{Bool, Err, IfErr, IfOk, IsSome, IsTrue, List, None, Ok, Option, Result, Some, [], ap}
pub use Rattle.std.proofs.Common.{append_assoc, arith, drop, false, inl, inr, length, length-append, map, refl}
pub use Rattle.std.proofs.Common.{replicate, rules, slice_get, subst, sym, take, true≢false, vec_capacity, ℕ, ℤ, ⊎_elim}
pub use Rattle.std.proofs.Common.{◌*◌, ◌++◌, ◌+◌, ◌-◌, ◌<◌, ◌==◌, ◌^◌, ◌∙◌, ◌∷◌, ◌≡◌, ◌≤◌, ◌⊎◌}
pub use Rattle.std.proofs.lemmas.List.{append-nil, length-map, length-take, take_all}
pub use Rattle.std.proofs.lemmas.{Int.ints, Result.err_from_is_err_and, Option.slice_get-get_or, Option.slice_get_read}
pub use Rattle.std.specs.{Prelude.slice_index}
pub use Rattle.std.specs.{Vec.Iter.into_iter_items, List.AllByRecursion, List.flat_map, Prelude.IsOk}
pub use Rattle.undo_history.specs.Stored.{Stored}
