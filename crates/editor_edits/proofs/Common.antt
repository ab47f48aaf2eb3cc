-- Names that several proofs of this crate use, from where they are declared.
pub use Rattle.block_ledger.specs.{Entries.count_of, Counts.Counts, Counts.occurrences}
pub use Rattle.block_writer.specs.Brought.{Brought}
pub use Rattle.clip_track.specs.declared.items.Item.{Item}
pub use Rattle.disk_model.{proofs.Frames.Fewer, specs.declared.store.Store.Ghosts}
pub use Rattle.edit_ops.specs.declared.types.NewBlock.{NewBlock}
pub use Rattle.editor_blocks.proofs.BlocksLeft.{all_failed, all_ids, all_left}
pub use Rattle.editor_blocks.proofs.StudioBlocks.{IsNewId, made_studio, refs, refs_ids}
pub use Rattle.editor_commits.proofs.PointTags.{all_recorded, recorded_current, recorded_depth, recorded_few}
pub use Rattle.editor_commits.proofs.{CommitImages.IsCommit, CommitStudios.CountsAfter}
pub use Rattle.editor_state.proofs.Calls.FileRemovals.{begun_untouched, broken_begins, commit_frees}
pub use Rattle.editor_state.proofs.Calls.FileRemovals.{commit_removes_none, ids_made}
pub use Rattle.editor_state.proofs.Refusals.{CallTests.unprepared_plain, EarlyRefusals.HasMade}
pub use Rattle.editor_state.proofs.{Blocks.BlockLists.among_all, Lists.all_so}
pub use Rattle.editor_state.specs.{Applied.Lasts, Core.Core, Exchanges.may_begin, Spent.NamesGiven, Vaults.IsInsideOr}
pub use Rattle.editor_state.specs.{Bodies.IsLength, Bodies.Writing, Bodies.all_bytes, Bodies.all_len, Bodies.whole_len}
pub use Rattle.editor_state.specs.{Edits.Committed, Edits.IsEdit, Edits.IsPlanned, Edits.IsPrepared, Edits.MayServe}
pub use Rattle.editor_state.specs.{Edits.Serves, Edits.TaggedEdit, Edits.clip_behind, Edits.history_behind}
pub use Rattle.editor_state.specs.{Left.Untouched, Makes.AreSynced, Makes.Making, Makes.OrCut, Makes.Stuck}
pub use Rattle.editor_state.specs.{Made.PiecesThere, Made.batch_of, Made.ids_from, Occurrences.HasAll}
pub use Rattle.editor_state.specs.{Occurrences.HasIds, Occurrences.Moves, Left.CountsIds, Left.Left, Left.Stops}
pub use Rattle.editor_state.specs.{Studios.IsGiven, Studios.IsHeld, Studios.IsStudio, Studios.clip_blocks}
pub use Rattle.editor_state.specs.{Studios.named_blocks, Studios.studio_of, Edits.BlockCommit, Edits.Carried}
pub use Rattle.editor_state.specs.{Took.Took, Took.with_sound, Adding.Adds, Adding.AddsBody, Adding.stopped_by}
pub use Rattle.layout_uses.proofs.Times.{Few}
pub use Rattle.layout_uses.specs.{Layouts.history_tracks, Tallies.Becomes, declared.tally.Tally.Tally}
pub use Rattle.pcm_base.specs.Counters.{Needs, commits_of, layouts_of}
pub use Rattle.pcm_base.specs.declared.answer.Reply.{Reply, TheVariants.Done}
pub use Rattle.pcm_base.specs.declared.refusal.Refusal.{Refusal}
pub use Rattle.pcm_base.specs.declared.wav.WavFault.TheVariants.{Truncated}
pub use Rattle.pcm_base.specs.declared.{block.BlockRef.BlockRef, command.Call.Call, entry.SoundMove.SoundMove}
pub use Rattle.pcm_base.specs.{Refusals.call_tests, Run.outside, History.History, History.recorded}
pub use Rattle.project_state.specs.{declared.track.Track.Track, Meaning.history_blocks, Meaning.point_blocks}
pub use Rattle.record_body.specs.declared.body.Body.{Body, TheVariants.Edit}
pub use Rattle.record_body.specs.{Saved.current_tracks, SavedValid.IsValidTagged}
pub use Rattle.std.proofs.Common.{Err, IfErr, List, None, Ok, Option, Result, [], ap, arith, false, inl, inr, length}
pub use Rattle.std.proofs.Common.{refl, rules, subst, suc, sym, true, ℕ, ℤ, ⊎_elim, ◌*◌, ◌++◌, ◌+◌, ◌<◌, ◌^◌, ◌∙◌, ◌∷◌}
pub use Rattle.std.proofs.Common.{◌≡◌, ◌≤◌, ◌⊎◌}
pub use Rattle.std.proofs.lemmas.Bool.{true≢false}
pub use Rattle.std.specs.{List.AllByRecursion, Prelude.IfOk}
