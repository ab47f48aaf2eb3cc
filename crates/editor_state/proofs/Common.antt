-- Names that several proofs of this crate use, from where they are declared.
pub use Rattle.block_cache.specs.Caches.{AllPass, Entries}
pub use Rattle.block_ledger.specs.Counts.{Counts, occurrences}
pub use Rattle.block_store.specs.{Reasons.reason_of, declared.fault.BlockFault.BlockFault}
pub use Rattle.clip_track.specs.Clips.{AreClips, clip_end, layout_blocks}
pub use Rattle.clip_track.specs.{Items.strip_cells, declared.clips.Clip.Clip, declared.items.Item.Item}
pub use Rattle.disk_model.proofs.Frames.{Fewer, changed_kept, changed_none, kept_none}
pub use Rattle.disk_model.specs.Frames.{Changed, Kept}
pub use Rattle.disk_model.specs.{Room.Room, declared.store.Store.Ghosts, Disk.Files, Disk.SameElsewhere}
pub use Rattle.editor_state.specs.{Adding.Outgrows, Events.KeepsPrefix, Occurrences.times_named, Purges.Purges}
pub use Rattle.editor_state.specs.{Applied.TookOver, Applied.reply_of, Exchanges.is_broken_off, Exchanges.may_begin}
pub use Rattle.editor_state.specs.{Edits.AreAmong, Edits.NotPrepared, Spent.NamesGiven, Spent.Needed, Applied.Span}
pub use Rattle.editor_state.specs.{Exchanges.may_have_begun, Exchanges.reads_sound, Left.CountsIds, Left.IsSoOf}
pub use Rattle.editor_state.specs.{Left.LeavesForeign, Left.Left, Left.MayRemove, Left.Stops, Left.Untouched}
pub use Rattle.editor_state.specs.{Records.Records, Removals.Frees, declared.pin.Pin.Pin, Core.Core, Core.form_at}
pub use Rattle.editor_state.specs.{Studios.IsHeld, Studios.IsStudio, Studios.MayPaste, Studios.PinsRise}
pub use Rattle.editor_state.specs.{Studios.SameBlocks, Studios.clip_blocks, Studios.clip_cells, Studios.is_given}
pub use Rattle.editor_state.specs.{Studios.named_blocks, Studios.pin_at, Studios.pin_blocks, Studios.pin_tracks}
pub use Rattle.editor_state.specs.{Studios.shown, Studios.studio_of, Studios.studio_tracks}
pub use Rattle.editor_state.specs.{Took.Exchange, Took.KeepsOneOf, Took.Took, Took.asks, Took.number_behind}
pub use Rattle.editor_state.specs.{Took.quietly, Took.silent, Took.with_sound, Studios.IsDurable, Studios.IsGiven}
pub use Rattle.envelope_view.specs.Answers.{IsDamagedIn, IsUndamaged}
pub use Rattle.layout_uses.specs.{Layouts.history_tracks, Tallies.AreCounts}
pub use Rattle.pcm_base.specs.{Cells.Project, History.History, Pieces.Sources, State.State, Step.MayAnswer}
pub use Rattle.pcm_base.specs.{Counters.generations_of, Counters.layouts_of, Counters.no_room, Counters.pins_of}
pub use Rattle.pcm_base.specs.{Counters.places_of, Counters.record_test, Shape.Cells, Shape.Columns, Shape.Compact}
pub use Rattle.pcm_base.specs.{Outside.Outside, Outside.Sounds, Refusals.bad_range, Refusals.call_tests}
pub use Rattle.pcm_base.specs.{Refusals.length_limit, Refusals.refused_if, Refusals.◌otherwise◌, Run.Answers}
pub use Rattle.pcm_base.specs.{Run.CarriesOut, Run.Heard, Run.name_in, Run.outside, Run.refusal_of, Run.stop_of}
pub use Rattle.pcm_base.specs.{Run.stop_test, Counters.Needs, Counters.commits_of, Counters.counter_tests}
pub use Rattle.pcm_base.specs.{Shape.Frames, Shape.Look, Shape.Shape, Shape.Tracks, Shape.View, Shape.shape_of}
pub use Rattle.pcm_base.specs.{declared.answer.Reply.Reply, declared.block.BlockRef.BlockRef}
pub use Rattle.pcm_base.specs.{declared.command.Call.Call, declared.command.Call.TheVariants.Line}
pub use Rattle.pcm_base.specs.{declared.command.Command.Command, declared.command.Command.TheVariants.Reclaim}
pub use Rattle.pcm_base.specs.{declared.entry.Entry.Entry, declared.entry.SoundMove.SoundMove}
pub use Rattle.pcm_base.specs.{declared.limits.TheConstants.COUNTER_LIMIT, declared.limits.TheConstants.LONGEST_BODY}
pub use Rattle.pcm_base.specs.{declared.piece.Piece.TheVariants.Given, declared.piece.Piece.TheVariants.Old}
pub use Rattle.pcm_base.specs.{declared.piece.Piece.TheVariants.Scaled, declared.piece.Piece.TheVariants.Zero}
pub use Rattle.pcm_base.specs.{declared.refusal.Refusal.Refusal}
pub use Rattle.project_journal.specs.{Gate.EachNow, Gate.EachSince, Journal.Log, Journal.with_bodies}
pub use Rattle.project_state.specs.Meaning.{history_blocks, meant, meant_history, point_blocks}
pub use Rattle.project_state.specs.declared.track.Track.{Track}
pub use Rattle.record_body.proofs.SavedBounds.{all_append}
pub use Rattle.record_body.specs.Saved.{Begins, Keeps, LeadIn, Saved}
pub use Rattle.record_body.specs.{SavedValid.IsValidPoint, Valid.AllValidTracks}
pub use Rattle.sample_block.specs.Sources.{AllWhole, IsWhole, sources_of}
pub use Rattle.std.proofs.Common.{Bool, Contains, Err, IfErr, IsSome, IsTrue, List, None, Ok, Option, Result, Some, []}
pub use Rattle.std.proofs.Common.{ap, append_assoc, arith, drop, eqb, false, flat_map, if◌then◌else◌, inl, inr, length}
pub use Rattle.std.proofs.Common.{length-append, map, nat_le, nat_lt, not, pos, refl, rules, subst, suc, sym, take}
pub use Rattle.std.proofs.Common.{true, zero, ℕ, ℤ, ⊎_elim, ◌&&◌, ◌*◌, ◌++◌, ◌+◌, ◌-◌, ◌<◌, ◌==◌, ◌^◌, ◌↔◌, ◌∙◌, ◌∷◌}
pub use Rattle.std.proofs.Common.{◌≡◌, ◌≤◌, ◌⊎◌}
pub use Rattle.std.proofs.lemmas.Option.{none-some, same_Some}
pub use Rattle.std.proofs.lemmas.{List.Elements.All-from_recursion, Bool.Decides.eqb_tells, Bool.true≢false}
pub use Rattle.std.specs.{List.AllByRecursion, Prelude.IfOk, Prelude.unwrap_or}
