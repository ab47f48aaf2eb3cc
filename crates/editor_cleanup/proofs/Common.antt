-- Names that several proofs of this crate use, from where they are declared.
pub use Rattle.block_cache.specs.Caches.{AllPass}
pub use Rattle.block_ledger.specs.Counts.{Counts, IsFirstFree, IsNextFree, SetsCount, occurrences}
pub use Rattle.disk_model.proofs.Frames.{Fewer, changed_none, changed_then_stays, changed_turn, changed_wider}
pub use Rattle.disk_model.specs.Disk.{Files, RemoveStep}
pub use Rattle.disk_model.specs.{Frames.Changed, MomentLaws.upto_refl, Room.Room, declared.store.Store.Ghosts}
pub use Rattle.editor_cleanup.specs.Frees.{Reclaims}
pub use Rattle.editor_cleanup.specs.Passes.{AreFirst, AreNext, DropsFirst, FreesFiles, NoneFrom, RemovesFirst}
pub use Rattle.editor_cleanup.specs.Passes.{SyncsFirst, only_calls}
pub use Rattle.editor_state.proofs.Blocks.{NamedBlocks.free_named, BlockSounds.all_whole, BlockSounds.trans_same}
pub use Rattle.editor_state.proofs.Calls.FileRemovals.{ids_freed, no_record, none_given, off_untouched}
pub use Rattle.editor_state.proofs.Calls.QuietCalls.{IsQuiet, room_of}
pub use Rattle.editor_state.proofs.Images.ImageProjects.{covers_kept, form_few, keeps_by, keeps_now, shown_is}
pub use Rattle.editor_state.proofs.Images.SameMeaning.{same_studio}
pub use Rattle.editor_state.proofs.{Lists.all_both, Refusals.CommitTests.fits, Refusals.EarlyRefusals.stopped_not}
pub use Rattle.editor_state.specs.Left.{LeavesOthers, MayRemove}
pub use Rattle.editor_state.specs.Packing.{packed_core, packed_log, packed_size, packed_text, points_in}
pub use Rattle.editor_state.specs.Removals.{AreGone, Forgets, IsUnnamed, Removes, RemovesPart}
pub use Rattle.editor_state.specs.Studios.{IsDurable, IsGiven, IsHeld, IsStudio, SameBlocks, clip_blocks, is_given}
pub use Rattle.editor_state.specs.Studios.{named_blocks, shown, studio_by, studio_of}
pub use Rattle.editor_state.specs.{Adding.HasFailed, Occurrences.times_named, Core.Core, Core.form_at}
pub use Rattle.pcm_base.specs.declared.command.{Command.TheVariants.Reclaim, Call.Call, Call.TheVariants.Line}
pub use Rattle.pcm_base.specs.declared.{block.BlockRef.BlockRef, refusal.Refusal.Refusal}
pub use Rattle.pcm_base.specs.{History.IsHistory, Causes.HasCause, Causes.Rose, Run.packed, Run.stop_of}
pub use Rattle.project_journal.specs.Journal.{HasLog, IsAt, Log, points_size}
pub use Rattle.project_journal.specs.Packing.{AreShort, HasEither, MayPack, OnlyJournals, Tells, pack_room}
pub use Rattle.project_journal.specs.{Choice.other_file, Header.form_3, Gate.EachNow, Gate.EachSince}
pub use Rattle.project_state.specs.declared.track.Track.{Track}
pub use Rattle.record_body.specs.{SavedValid.IsValidTagged, Saved.Keeps, Saved.point_bytes}
pub use Rattle.sample_block.specs.Sources.{AllWhole, IsWhole, sources_of}
pub use Rattle.std.proofs.Common.{Bool, Err, IsSome, IsTrue, List, None, Ok, Option, Result, Some, [], ap, arith, inl}
pub use Rattle.std.proofs.Common.{inr, length, length-append, map, refl, rules, subst, suc, sym, zero, ℕ, ⊎_elim, ◌++◌}
pub use Rattle.std.proofs.Common.{◌+◌, ◌<◌, ◌^◌, ◌∙◌, ◌∷◌, ◌≡◌, ◌≢◌, ◌≤◌, ◌⊎◌}
pub use Rattle.std.proofs.lemmas.Bool.{cases_eq}
pub use Rattle.std.specs.List.{AllByRecursion}
pub use Rattle.std.specs.Prelude.{Contains, IfSome, slice_index, unwrap_or, ◌-◌}
