-- Names that several proofs of this crate use, from where they are declared.
pub use Rattle.block_cache.specs.Caches.{Entries}
pub use Rattle.block_ledger.specs.Counts.{Counts}
pub use Rattle.block_store.specs.Reads.{Counted, CountedBy, IsFaultIn}
pub use Rattle.block_store.specs.{Reasons.reason_of, declared.fault.BlockFault.BlockFault}
pub use Rattle.clip_track.proofs.Layouts.{length-layout}
pub use Rattle.disk_model.{proofs.Frames.Fewer, specs.Disk.Files, specs.Frames.Kept, specs.declared.store.Store.Ghosts}
pub use Rattle.editor_commits.proofs.{CursorTracks.may_read, CurrentProject.current_meant, CurrentProject.current_valid}
pub use Rattle.editor_state.proofs.Blocks.{BlockDamage.fault_among, CachePages.ReadsNamed}
pub use Rattle.editor_state.proofs.Calls.LookCalls.{looked_failed, looked_held, looked_ok, looked_studio}
pub use Rattle.editor_state.proofs.Calls.LookCalls.{looked_wanting}
pub use Rattle.editor_state.proofs.Calls.NameChanges.{Renames, renamed, renamed_took}
pub use Rattle.editor_state.proofs.Calls.QuietCalls.{IsQuiet, carried, quiet_passes, refused_own, refused_stopped}
pub use Rattle.editor_state.proofs.Calls.QuietCalls.{refused_wanting, room_of, stays_answered}
pub use Rattle.editor_state.proofs.Lists.{all_left, all_right, all_so}
pub use Rattle.editor_state.proofs.Refusals.{CommitTests.fits, EarlyRefusals.stopped_not}
pub use Rattle.editor_state.specs.Studios.{IsHeld, IsStudio, PinsRise, clip_blocks, named_blocks, pin_at, pin_blocks}
pub use Rattle.editor_state.specs.Studios.{pin_tracks, shown, studio_of, studio_tracks}
pub use Rattle.editor_state.specs.{Core.Core, declared.pin.Pin.Pin, Took.Took, Took.quietly, Took.silent}
pub use Rattle.editor_views.specs.Pins.{LacksPin, MayFind}
pub use Rattle.envelope_view.proofs.AnswerLaws.{reason_damaged}
pub use Rattle.layout_uses.proofs.Moves.{counts_swapped}
pub use Rattle.layout_uses.specs.Layouts.{AreDrawn, AreNumbered, history_tracks}
pub use Rattle.layout_uses.specs.{declared.tally.Tally.Tally, Tallies.AreCounts, Tallies.IsTally}
pub use Rattle.mix_reader.specs.Tracks.{mix_length_of}
pub use Rattle.pcm_base.specs.Mix.{mix_length, mix_of}
pub use Rattle.pcm_base.specs.Refusals.{bad_view, refused_if, ◌otherwise◌}
pub use Rattle.pcm_base.specs.Run.{Answers, BreaksOff, CarriesOut, followed, outside, stop_of}
pub use Rattle.pcm_base.specs.Step.{after, with_pin, without_pin}
pub use Rattle.pcm_base.specs.declared.command.Call.{Call, TheVariants.Line, TheVariants.PinLen, TheVariants.ReadPin}
pub use Rattle.pcm_base.specs.declared.{block.BlockRef.BlockRef, refusal.Refusal.Refusal, sound.Frame.Frame}
pub use Rattle.pcm_base.specs.{Cells.Project, Edits.part, Pieces.Sources, State.current, Wave.wav_text}
pub use Rattle.project_state.specs.{Meaning.point_blocks}
pub use Rattle.project_state.specs.{declared.track.Track.Track, Meaning.history_blocks, Meaning.meant}
pub use Rattle.record_body.proofs.SavedBounds.{all_append}
pub use Rattle.record_body.specs.{SavedValid.IsValidPoint, Saved.Keeps, Saved.current_tracks}
pub use Rattle.sample_block.specs.Sources.{IsWhole, sources_of}
pub use Rattle.sound_export.proofs.GrowLaws.{length_mix}
pub use Rattle.std.proofs.Common.{Bool, Err, IsSome, IsTrue, List, None, Ok, Option, Some, [], ap, append_assoc, arith}
pub use Rattle.std.proofs.Common.{drop, false, inl, inr, length, length-drop, map, min, refl, subst, suc, sym, take}
pub use Rattle.std.proofs.Common.{true, zero, ℕ, ⊎_elim, ◌*◌, ◌++◌, ◌+◌, ◌-◌, ◌<◌, ◌==◌, ◌↔◌, ◌∙◌, ◌∷◌, ◌≡◌, ◌≢◌, ◌≤◌}
pub use Rattle.std.proofs.Common.{◌⊎◌}
pub use Rattle.std.proofs.lemmas.{Option.same_Some, List.Elements.All-from_recursion, List.append-nil}
pub use Rattle.std.specs.{List.AllByRecursion, Prelude.Contains, Prelude.IfErr}
