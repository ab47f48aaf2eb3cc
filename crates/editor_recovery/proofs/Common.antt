-- Names that several proofs of this crate use, from where they are declared.
pub use Rattle.block_store.specs.declared.fault.BlockFault.{BlockFault}
pub use Rattle.clip_track.specs.{Clips.layout_blocks, declared.clips.Clip.Clip}
pub use Rattle.disk_model.proofs.Frames.{changed_kept, kept_none, kept_turn}
pub use Rattle.disk_model.specs.Disk.{Files, Follows, StaysStep, bytes_of}
pub use Rattle.disk_model.specs.{MomentLaws.upto_refl, declared.store.Store.Ghosts, Frames.Changed, Frames.Kept}
pub use Rattle.editor_core.specs.{Core.core_of, Parts.assembled, declared.assembly.Parts.Parts}
pub use Rattle.editor_recovery.specs.{Causes.Causes, Checking.ChecksStudio, Creating.HasNoForeign, Measured.size_in}
pub use Rattle.editor_recovery.specs.{Files.NoForeign, Files.is_foreign, Honest.IsHonest, Honest.Names}
pub use Rattle.editor_recovery.specs.{Finding.IsValidFolded, Finding.TestsMeasured, Found.Found, Found.IsNew}
pub use Rattle.editor_recovery.specs.{Found.answer_in, Found.found_in, Opening.HeaderFault, Opening.IsFound}
pub use Rattle.editor_recovery.specs.{Honest.OpensHonest, Standing.HasNone, Standing.HasSome, Standing.Stands}
pub use Rattle.editor_recovery.specs.{Opening.Opens, Opening.RecordFault, Opening.SizeFault, Sizes.AllHaveSize}
pub use Rattle.editor_recovery.specs.{Reading.Refuses, Stores.answer_of, Listing.AreFiles, Listing.Lists, Files.IsAbove}
pub use Rattle.editor_recovery.specs.{Sizes.AreSearched, Sizes.IsFirstWrong, Sizes.IsUpTo, Sizes.earlier}
pub use Rattle.editor_recovery.specs.{Sizes.file_size, Sizes.first_wrong, Sizes.is_up_to, Sizes.one_more}
pub use Rattle.editor_recovery.specs.{declared.disk.Disk.Disk, declared.disk.Folded.Folded}
pub use Rattle.editor_recovery.specs.{declared.fault.OpenFault.OpenFault, Finding.ArePartsOf, Finding.FoldsDisk}
pub use Rattle.editor_state.specs.Core.{Core}
pub use Rattle.editor_state.specs.Studios.{IsHeld, IsStudio, ids_of, shown, studio_of}
pub use Rattle.editor_views.specs.Scans.{AreListed, HaveOneLength}
pub use Rattle.journal_replay.specs.Folds.{IsValid, saved_of}
pub use Rattle.journal_replay.specs.{Bases.base_of, Faults.journal_fault, declared.project.Project.Project}
pub use Rattle.layout_uses.specs.{Occurrences.times_named, Layouts.AgreesWith, Layouts.history_tracks}
pub use Rattle.pcm_base.specs.History.{History, points_of}
pub use Rattle.pcm_base.specs.declared.block.BlockRef.{BlockRef}
pub use Rattle.pcm_base.specs.declared.limits.TheConstants.{COUNTER_LIMIT, FIRST_BLOCK}
pub use Rattle.project_journal.proofs.Found.{read_whole, stored_here, whole_log}
pub use Rattle.project_journal.proofs.Picked.{picked_once, zero_or_one}
pub use Rattle.project_journal.proofs.{AnyFormats.HasBase, Kept.each_has, ReadOnce.read_form}
pub use Rattle.project_journal.specs.Journal.{Contents, HasLog, IsAt, IsRead, Log, body_at, log_of}
pub use Rattle.project_journal.specs.{Answer.NoFault, Fields.field, Opening.IsOpened, Reader.reader_form}
pub use Rattle.project_journal.specs.{Header.Form, Header.IsForm, Header.IsProject, Header.form_of}
pub use Rattle.project_journal.specs.{Start.NoProject, Choice.IsNewest, Choice.IsPicked, Gate.EachNow, Gate.IsDurable}
pub use Rattle.project_journal.specs.{declared.base.Base.Base, declared.fault.Damaged.Damaged}
pub use Rattle.project_journal.specs.{declared.fault.JournalFault.JournalFault, declared.reader.Reader.Reader}
pub use Rattle.project_state.proofs.{Meanings.all_parts, Points.drop_some, Points.some_is}
pub use Rattle.project_state.specs.{declared.track.Track.Track, Meaning.history_blocks, Meaning.point_blocks}
pub use Rattle.record_body.proofs.{Unnumbered.history_blocks_alike, SavedBounds.IsBlockRef, SavedBounds.all_append}
pub use Rattle.record_body.specs.Saved.{Begins, Keeps, LeadIn, Saved, opened, version_of}
pub use Rattle.record_body.specs.SavedValid.{IsValidTagged}
pub use Rattle.row_ledger.specs.Lists.{counts_of}
pub use Rattle.sample_block.specs.{Blocks.blocks, Sources.IsWhole, Sources.sources_of, Spelling.IsBlock}
pub use Rattle.sample_block.specs.{Spelling.size_of}
pub use Rattle.std.proofs.Common.{Bool, Err, List, None, Ok, Option, Result, Some, [], ap, arith, cond, drop, false}
pub use Rattle.std.proofs.Common.{get_or, inl, inr, length, map, refl, subst, suc, sym, take, true, zero, ℕ, ℤ, ⊎_elim}
pub use Rattle.std.proofs.Common.{◌++◌, ◌+◌, ◌-◌, ◌<◌, ◌==◌, ◌^◌, ◌∙◌, ◌∷◌, ◌≡◌, ◌≢◌, ◌≤◌, ◌⊎◌}
pub use Rattle.std.proofs.lemmas.Bool.{cases_Bool, eqb-false, eqb-true, leb-false, leb-true, ltb-false, ltb-true}
pub use Rattle.std.proofs.lemmas.List.Elements.{All-contains, All-contains_itself, All-from_recursion, All-get_or}
pub use Rattle.std.proofs.lemmas.List.Elements.{recursion_from_All}
pub use Rattle.std.proofs.lemmas.List.{length-map, Kept.AllPairs-from_increasing}
pub use Rattle.std.proofs.lemmas.Option.{none-some, slice_get-get_or, slice_get_within}
pub use Rattle.std.specs.List.{All, AllByRecursion, flat_map, Sorted.IsStrictlyIncreasing}
pub use Rattle.std.specs.Prelude.{Contains, IfErr, IfOk, IsSome, IsTrue, OnOk, find, if◌then◌else◌, nat_le, nat_lt}
pub use Rattle.std.specs.Prelude.{slice_get, ◌&&◌, ◌||◌, ◌↔◌}
pub use Rattle.record_body.specs.Saved.{Opened}
pub use Rattle.std.specs.Prelude.{◌⊎◌}
