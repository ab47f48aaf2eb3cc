-- Names that several proofs of this crate use, from where they are declared.
pub use Rattle.block_ledger.specs.{Counts.Counts, Entries.count_of}
pub use Rattle.clip_track.specs.{Clips.IsLayout, Clips.layout_blocks, declared.clips.Clip.Clip}
pub use Rattle.clip_track.specs.{declared.items.Item.Item}
pub use Rattle.disk_model.{specs.declared.store.Store.Ghosts, proofs.Frames.Fewer, proofs.Frames.changed_wider}
pub use Rattle.editor_commits.specs.Plain.{empty_track, layouts_by, line_of, refusal_by, set_by, tracks_by, without}
pub use Rattle.editor_commits.specs.declared.plain_edit.PlainEdit.{PlainEdit}
pub use Rattle.editor_state.proofs.Blocks.{BlockSounds.sources_elsewhere, NamedBlocks.tracks_few}
pub use Rattle.editor_state.proofs.Calls.CallPremises.{TookWhere, took_so}
pub use Rattle.editor_state.proofs.Calls.FileRemovals.{commit_frees, commit_leaves_journal, commit_removes_none}
pub use Rattle.editor_state.proofs.Calls.OtherFiles.{NoneGoes, others_record}
pub use Rattle.editor_state.proofs.Images.ImageProjects.{Covers}
pub use Rattle.editor_state.proofs.Lists.{all_drop, all_each, all_joined, all_left, all_right, all_so, all_take}
pub use Rattle.editor_state.proofs.Refusals.CommitTests.{IsCommitCall}
pub use Rattle.editor_state.proofs.Refusals.EarlyRefusals.{HasMade, none_made, record_within, refuses, stopped_not}
pub use Rattle.editor_state.proofs.Refusals.EarlyRefusals.{wants}
pub use Rattle.editor_state.specs.{Adding.ExceedsBy, Adding.Fields, Adding.IsNoWant, Adding.Settles, Adding.Undrawn}
pub use Rattle.editor_state.specs.{Adding.stopped_by, Bodies.IsLength, Bodies.Writing, Bodies.all_bytes, Bodies.all_len}
pub use Rattle.editor_state.specs.{Bodies.bodies_by, Bodies.body_bytes, Bodies.bytes_by, Bodies.single, Bodies.whole_by}
pub use Rattle.editor_state.specs.{Bodies.whole_len, Studios.IsDurable, Studios.IsGiven, Studios.IsHeld}
pub use Rattle.editor_state.specs.{Packing.packed_by, Records.Says, Spent.WouldMake, Core.Core, Core.form_at}
pub use Rattle.editor_state.specs.{Points.lacks, Points.put_in, Points.put_one, Took.KeepsOneOf, Took.Took}
pub use Rattle.editor_state.specs.{Studios.IsStudio, Studios.MayPaste, Studios.clip_blocks, Studios.clip_cells}
pub use Rattle.editor_state.specs.{Studios.named_blocks, Studios.pin_blocks, Studios.pin_tracks, Studios.studio_by}
pub use Rattle.editor_state.specs.{Studios.studio_of, Studios.studio_tracks}
pub use Rattle.editor_state.specs.{Took.quietly, Took.silent, Took.with_sound, Adding.Adds, Adding.AddsBody}
pub use Rattle.envelope_view.specs.Answers.{IsUndamaged}
pub use Rattle.layout_uses.proofs.Putting.{same_numbers}
pub use Rattle.layout_uses.specs.Layouts.{AreDrawn, AreNumbered, history_tracks}
pub use Rattle.layout_uses.specs.Tallies.{AreCounts, Becomes, MayBecome}
pub use Rattle.layout_uses.specs.{Drawing.HasNumbers, declared.tally.Tally.Tally}
pub use Rattle.pcm_base.specs.{Cells.changed_at, Cells.dropped, Cells.tracks_from, Run.CarriesOut, Run.followed}
pub use Rattle.pcm_base.specs.{History.kept, History.purged, Refusals.bad_range, Refusals.call_tests, Refusals.is_empty}
pub use Rattle.pcm_base.specs.{Outside.Outside, Pieces.Sources, Sizes.project_body_most, Step.after, State.State}
pub use Rattle.pcm_base.specs.{Refusals.refused_if, Refusals.◌otherwise◌, declared.answer.Reply.TheVariants.Done}
pub use Rattle.pcm_base.specs.{Run.outside, Run.stop_of, History.History, History.at_cursor, History.edited}
pub use Rattle.pcm_base.specs.{State.current, Counters.Needs, Counters.layouts_of, Counters.record_test, Cells.Project}
pub use Rattle.pcm_base.specs.{declared.block.BlockRef.BlockRef, declared.command.Call.Call}
pub use Rattle.pcm_base.specs.{declared.command.Call.TheVariants.Line, declared.entry.SoundMove.SoundMove}
pub use Rattle.pcm_base.specs.{declared.limits.TheConstants.LONGEST_BODY, declared.refusal.Refusal.Refusal}
pub use Rattle.pcm_base.specs.{declared.refusal.Refusal.TheVariants.NoTrack}
pub use Rattle.project_journal.specs.Journal.{IsAt, rows_length, with_bodies}
pub use Rattle.project_journal.specs.{Answer.Appends, Gate.EachSince, declared.fault.JournalFault.JournalFault}
pub use Rattle.project_state.specs.Meaning.{history_blocks, meant, meant_history, meant_track, point_blocks}
pub use Rattle.project_state.specs.Numbers.{AgreeById, unnumbered, unnumbered_history}
pub use Rattle.project_state.specs.Tracks.{AllBelow, AreAbove, track_of}
pub use Rattle.project_state.specs.declared.track.Track.{Track}
pub use Rattle.record_body.proofs.{Unnumbered.current_alike, SavedBounds.all_append, SavedBounds.tagged_more}
pub use Rattle.record_body.specs.{Numbers.unnumbered_body, Spelling.spelling, Batches.after_bodies, Batches.with_point}
pub use Rattle.record_body.specs.{Saved.IsNextIn, Saved.LeadIn, Saved.MayFollow, Saved.Saved, Saved.before_of}
pub use Rattle.record_body.specs.{Saved.current_tracks, Saved.first_tracks, Saved.version_of}
pub use Rattle.record_body.specs.{SavedValid.IsValidPoint, SavedValid.IsValidTagged, Valid.AllValidTracks}
pub use Rattle.record_body.specs.{Valid.IsValidBody, Valid.IsValidTrack, declared.body.Body.Body}
pub use Rattle.record_body.specs.{declared.body.Body.TheVariants.Edit, declared.body.Body.TheVariants.Purge}
pub use Rattle.record_body.specs.{declared.body.Body.TheVariants.Redo, declared.body.Body.TheVariants.Undo}
pub use Rattle.sample_block.specs.Sources.{AllWhole, IsWhole, sources_of}
pub use Rattle.std.proofs.Common.{Bool, Err, IfErr, IsErrOf, IsSome, IsTrue, List, None, Ok, OnOk, Option, Result, Some}
pub use Rattle.std.proofs.Common.{[], add-mul, ap, arith, drop, eqb, false, if◌then◌else◌, inl, inr, length}
pub use Rattle.std.proofs.Common.{length-append, map, nat_le, nat_lt, refl, rules, subst, suc, sym, true, zero, ℕ}
pub use Rattle.std.proofs.Common.{⊎_elim, ◌*◌, ◌++◌, ◌+◌, ◌-◌, ◌<◌, ◌==◌, ◌^◌, ◌↔◌, ◌∙◌, ◌∷◌, ◌≡◌, ◌≤◌, ◌⊎◌}
pub use Rattle.std.proofs.lemmas.Bool.{eq-eqb, ne_eqb, Decides.eqb_tells}
pub use Rattle.std.proofs.lemmas.{List.length-drop, List.length-map, Option.none-some, Option.same_Some}
pub use Rattle.std.specs.List.{AllByRecursion}
