-- Names that several proofs of this crate use, from where they are declared.
pub use Rattle.disk_model.specs.declared.store.Store.{Ghosts}
pub use Rattle.edit_ports.specs.Answers.{AreTaken, NextAt, after_read, first_refusal, numbered_pieces, samples_of}
pub use Rattle.editor_core.specs.Core.{core_of}
pub use Rattle.editor_state.proofs.Calls.VaultCalls.{lasts_took}
pub use Rattle.editor_state.specs.Studios.{IsHeld, IsStudio, shown, studio_of}
pub use Rattle.editor_state.specs.Took.{Took, as_reply, freeing, silent}
pub use Rattle.editor_state.specs.{Core.Core, Applied.move_of, Applied.reply_of}
pub use Rattle.mixdown.specs.Loads.{tracks_in}
pub use Rattle.model_laws.proofs.Answered.{carried_is}
pub use Rattle.pcm_base.specs.Mix.{loaded_of, mix_of}
pub use Rattle.pcm_base.specs.Recordings.{parts_of, pieces_in, pieces_of}
pub use Rattle.pcm_base.specs.Run.{Answers, Heard, Run, Step, name_in, name_in_line, outside, result_of}
pub use Rattle.pcm_base.specs.State.{State, current}
pub use Rattle.pcm_base.specs.declared.command.Call.TheVariants.{Line, LoadPin, Piece, Pin, PinLen, ReadPin, Unpin}
pub use Rattle.pcm_base.specs.declared.command.Call.{Call}
pub use Rattle.pcm_base.specs.declared.command.Command.TheVariants.{Compact, Purge, PurgeTo, Reclaim, Redo, Undo}
pub use Rattle.pcm_base.specs.declared.{answer.Reply.TheVariants.Done, answer.Reply.TheVariants.Frames}
pub use Rattle.pcm_base.specs.declared.{answer.Reply.TheVariants.Freed, answer.Reply.TheVariants.Length}
pub use Rattle.pcm_base.specs.declared.{answer.Reply.TheVariants.Loaded, answer.Reply.TheVariants.Packed}
pub use Rattle.pcm_base.specs.declared.{answer.Reply.TheVariants.Pinned, answer.Reply.TheVariants.Purged}
pub use Rattle.pcm_base.specs.declared.{answer.Reply.TheVariants.Refused}
pub use Rattle.pcm_base.specs.declared.{entry.SoundMove.SoundMove, answer.Answer.Answer, answer.Reply.Reply}
pub use Rattle.pcm_base.specs.declared.{limits.TheConstants.COUNTER_LIMIT, lists.LoadedTrack.LoadedTrack}
pub use Rattle.pcm_base.specs.declared.{refusal.Refusal.Refusal, said.Said.Said, sound.Frame.Frame, entry.Entry.Entry}
pub use Rattle.pcm_base.specs.{Arithmetic.counted_from, Cells.Project, Counters.commits_of, Parts.Part}
pub use Rattle.pin_turn.proofs.Sums.{Each-append}
pub use Rattle.pin_turn.specs.{Counts.Each, Rule.ByOthers, declared.view.View.View, Calls.known, Calls.start_of}
pub use Rattle.std.proofs.Common.{Bool, Err, IsSome, IsTrue, List, None, Ok, Option, Result, Some, [], ap, append_assoc}
pub use Rattle.std.proofs.Common.{arith, drop, eq-eqb, false, if◌then◌else◌, inl, inr, length, map, nat_lt, refl, subst}
pub use Rattle.std.proofs.Common.{suc, sym, take, true, zero, ℕ, ℤ, ⊎_elim, ◌&&◌, ◌*◌, ◌++◌, ◌+◌, ◌-◌, ◌<◌, ◌==◌, ◌∙◌}
pub use Rattle.std.proofs.Common.{◌∷◌, ◌≡◌, ◌≤◌, ◌⊎◌}
pub use Rattle.std.proofs.lemmas.List.{append-nil, length-append, length-map, length-take-le}
pub use Rattle.std.proofs.lemmas.{Option.none-some, Bool.Decides.nat_tests, Bool.lt-ltb, Bool.true≢false}
pub use Rattle.std.specs.Prelude.{IfErr, IfOk, MatchResult, OnOk, is_err}
pub use Rattle.studio_seats.specs.Deeds.{actor_of, commits, deed, entries_of, entry_of, is_commit, number_after}
pub use Rattle.studio_seats.specs.Deeds.{raised_by}
pub use Rattle.studio_seats.specs.Desks.{Says, Spends, Turned, asked, spent, start_at, views}
pub use Rattle.studio_seats.specs.Stands.{AllTell, Chain, Does, Origin, StandsFor, origin}
pub use Rattle.studio_seats.specs.{Faults.IsServed, Reads.ReadsOn, Merge.by_seat, Merge.deeds_of}
pub use Rattle.studio_seats.specs.{Freeing.AreFreed, Freeing.IsDue, Freeing.IsFullReclaim, Freeing.unfreed, Onward.Asks}
pub use Rattle.studio_seats.specs.{Onward.EndsBy, Onward.Onward, Onward.worker, Pins.ShowsPin, Pins.after_entry}
pub use Rattle.studio_seats.specs.{Pieces.pieces_by, Recording.RecordsOn, Recording.asks_piece, Recording.recorder}
pub use Rattle.studio_seats.specs.{Pins.after_what, Pins.makes_pin, Pins.pin_frames}
pub use Rattle.studio_seats.specs.{declared.deed.Deed.Deed, declared.held.Held.Held, Pieces.piece_by, Pieces.piece_in}
pub use Rattle.edit_ports.specs.declared.vault.Vault.{Ghosts as VaultGhosts}
pub use Rattle.pcm_base.specs.Studio.{Studio}

-- the deed of a turn whose call names no sound
abbrev pub quiet : {D V : Type 0} {disk : Ghosts D} → View (Held D V disk) Deed → Call → Result Reply Refusal
    → List Deed
quiet v call what = deed v.number call what silent ∷ []
