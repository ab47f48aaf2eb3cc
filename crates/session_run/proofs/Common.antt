-- Names that several proofs of this crate use, from where they are declared.
pub use Rattle.call_words.specs.{Texts.Text, Words.words_of, declared.asked.Words.Words}
pub use Rattle.desk_session.proofs.ListLemmas.{same_rest}
pub use Rattle.desk_session.specs.Opening.{OwnDeed, PinDeed, TrackDeed, play_calls, record_calls, record_commits}
pub use Rattle.desk_session.specs.Sounds.{Played, Recorded, piece_numbers}
pub use Rattle.desk_session.specs.declared.opening.Beside.{Beside}
pub use Rattle.desk_session.specs.declared.outcome.{PlayOutcome.PlayOutcome, RecordOutcome.RecordOutcome}
pub use Rattle.desk_session.specs.declared.side.Side.{Side, TheVariants.Made, TheVariants.NotAsked, TheVariants.Refused}
pub use Rattle.desk_session.specs.{Makers.is_by}
pub use Rattle.desk_session.specs.{Sessions.IsSession, Sides.WhereMade, Lent.Kinds, Lent.kinds, Makers.Seats}
pub use Rattle.disk_model.specs.Room.{IsSpent, Room, StaysRoom}
pub use Rattle.disk_model.specs.{Disk.Files, Frames.asked, declared.store.Store.Ghosts}
pub use Rattle.edit_ports.specs.Told.{grown}
pub use Rattle.editor_core.specs.Core.{core_of}
pub use Rattle.editor_recovery.specs.{Honest.IsHonest, declared.fault.OpenFault.OpenFault}
pub use Rattle.editor_state.specs.Exchanges.{begun_in_vain, may_have_begun}
pub use Rattle.editor_state.specs.Studios.{IsHeld, IsStudio, studio_of}
pub use Rattle.editor_state.specs.{Applied.reply_of, Core.Core, Events.KeepsPrefix, Left.LeavesForeign, Took.as_reply}
pub use Rattle.memory_disk.specs.declared.ram.RamStore.{RamStore}
pub use Rattle.memory_project.specs.Fresh.{IsFresh}
pub use Rattle.model_laws.proofs.Answered.{carried_is}
pub use Rattle.pcm_base.specs.Run.{Answers, CarriesOut, Run, outside, result_of}
pub use Rattle.pcm_base.specs.declared.answer.Answer.{Answer}
pub use Rattle.pcm_base.specs.declared.answer.Reply.{Reply, TheVariants.Pinned, TheVariants.Wrote}
pub use Rattle.pcm_base.specs.declared.command.Call.{Call, TheVariants.Line, TheVariants.Pin, TheVariants.Unpin}
pub use Rattle.pcm_base.specs.declared.command.Command.{Command, TheVariants.Bounce, TheVariants.Track}
pub use Rattle.pcm_base.specs.declared.entry.{Entry.Entry, SoundMove.SoundMove}
pub use Rattle.pcm_base.specs.declared.refusal.Refusal.{Refusal, TheVariants.NoMemory}
pub use Rattle.pcm_base.specs.declared.sound.{Frame.Frame, TrackLine.TrackLine}
pub use Rattle.pcm_base.specs.{Causes.Rose, State.current, Studio.fault_sum, Recordings.frame_bytes}
pub use Rattle.pcm_base.specs.{Recordings.pieces_of}
pub use Rattle.pin_turn.{proofs.Sums.Each-left, proofs.Sums.Each-right, specs.Counts.Each, specs.Rule.ByOthers}
pub use Rattle.player_threads.specs.Filled.{reads_to}
pub use Rattle.recorder_threads.specs.{Blocks.mic_state, Captured.IsStoppedBy, declared.microphone.MicEnd.MicEnd}
pub use Rattle.script_reader.proofs.{AddedLemmas.scripts_add, BounceLemmas.each_own}
pub use Rattle.script_reader.specs.Answering.{AnswersLines, Next, Turn, is_refusal}
pub use Rattle.script_reader.specs.Place.{Bounces, Enters, Place, batch, line_deed}
pub use Rattle.script_reader.specs.{Progress.IsCauseOf, declared.stop.Stop.Stop, Change.Change, Change.change}
pub use Rattle.script_text.specs.{Last.last_text, Project.checked_text, Grammar.is_silent, Grammar.line_of}
pub use Rattle.session_run.specs.{Answered.BounceEntries, Answered.BounceNumber, Runs.Runs, Runs.RunsOn, Runs.RunsTo}
pub use Rattle.session_run.specs.{Call.Does, Call.DoesWords, Call.EndsAs, Call.HasCause, Call.IsTry, Call.OneRose}
pub use Rattle.session_run.specs.{Call.Promises, Call.World, Call.any_rose, Call.counts, Call.met_of}
pub use Rattle.session_run.specs.{Entries.last_number, Entries.numbers_by, Entries.pieces_apart, Refused.IsDone}
pub use Rattle.session_run.specs.{Last.WritesEnd, Last.mic_failed, Last.play_line, Last.record_end, Last.record_line}
pub use Rattle.session_run.specs.{Last.speaker_failed, Last.status_of, Streams.IsReadOn, Streams.Prints}
pub use Rattle.session_run.specs.{Opening.OpensTo, Projects.OpensNot, VaultSounds.SoundsFollow, Promise.Met}
pub use Rattle.session_run.specs.{Outgrown.Sum, Outgrown.has_begun, Outgrown.nothing_needed, Outgrown.plus}
pub use Rattle.session_run.specs.{Ports.Handed, Ports.Job, Ports.Ports, Ports.handed, Ports.job, Ports.lent_of}
pub use Rattle.session_run.specs.{Promise.Promise, Tries.faults_of, Tries.tried_project}
pub use Rattle.session_run.specs.{Refused.IsRefused, Refused.call_fault_of, Refused.status_of_fault, Outgrown.IsTooMuch}
pub use Rattle.session_run.specs.{Sides.ArePieces, Sides.PlaysSide, Sides.RecordsSide, Entries.entries_by}
pub use Rattle.session_run.specs.{Streams.PrintsFrom, Streams.Streams, Streams.from_sink, Streams.input, Streams.output}
pub use Rattle.session_run.specs.{declared.counts.FaultCounts.FaultCounts, declared.ending.Done.Done, Answered.Answered}
pub use Rattle.sound_bounce.specs.Bounces.{AfterPin, BounceDeeds}
pub use Rattle.std.proofs.Common.{Bool, Err, IsSome, List, None, Ok, Option, Result, Some, [], ap, append_assoc, arith}
pub use Rattle.std.proofs.Common.{drop, eq-eqb, false, if◌then◌else◌, inl, inr, length, nat_lt, refl, subst, suc, sym}
pub use Rattle.std.proofs.Common.{take, true, ℕ, ℤ, ⊎_elim, ◌*◌, ◌++◌, ◌+◌, ◌-◌, ◌<◌, ◌==◌, ◌||◌, ◌∙◌, ◌∷◌, ◌≡◌, ◌≢◌}
pub use Rattle.std.proofs.Common.{◌≤◌, ◌⊎◌}
pub use Rattle.std.proofs.lemmas.List.{append-nil, length-append, take-append-le, Concat.flat_map-append}
pub use Rattle.std.proofs.lemmas.{Option.none-some, Bool.lt-ltb, Bool.true≢false}
pub use Rattle.std.specs.List.Sorted.{IsStrictlyIncreasing}
pub use Rattle.std.specs.Prelude.{Contains, IfErr, IsOk, IsSomeAnd, MatchBool}
pub use Rattle.studio_seats.proofs.Grown.{all_told, entries_append, leads, number_append}
pub use Rattle.studio_seats.proofs.{FreeingLemmas.same_seat, OnwardLemmas.each_append}
pub use Rattle.studio_seats.specs.Deeds.{actor_of, commits, entries_of, entry_of, is_commit, number_after, raised_by}
pub use Rattle.studio_seats.specs.Leads.{DeedsAsk, HadTurn, IsUnharmed, Leads, StopsInFlight}
pub use Rattle.studio_seats.specs.Stands.{AllTell, AreTold, Chain, StandsFor, origin}
pub use Rattle.studio_seats.specs.{Desks.spent, Imports.telling, Pieces.pieces_by, Pins.pin_frames, Reads.EndReads}
pub use Rattle.studio_seats.specs.{Merge.deeds_of, Merge.numbers_of, Onward.AreDone, Onward.Asks, Onward.EndsBy}
pub use Rattle.studio_seats.specs.{Onward.IsPieceOf}
pub use Rattle.studio_seats.specs.{Recording.RecorderAsks, Recording.asks_piece, Merge.any_seat, Merge.by_seat}
pub use Rattle.studio_seats.specs.{Shows.IsMixOf, declared.deed.Deed.Deed, Faults.AreServed, Faults.IsServed}
