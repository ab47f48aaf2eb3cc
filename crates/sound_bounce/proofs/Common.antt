-- Names that several proofs of this crate use, from where they are declared.
pub use Rattle.disk_model.specs.declared.store.Store.{Ghosts}
pub use Rattle.edit_ports.specs.Sounds.{MayHaveGrown, sound_bytes}
pub use Rattle.editor_state.specs.{Core.Core, Took.as_reply, Took.silent}
pub use Rattle.mixdown.specs.Loads.{loaded_tracks}
pub use Rattle.pcm_base.specs.declared.command.Call.TheVariants.{LoadPin, Pin, PinLen, Unpin}
pub use Rattle.pcm_base.specs.declared.command.Call.{Call}
pub use Rattle.pcm_base.specs.declared.{answer.Reply.Reply, refusal.Refusal.Refusal, said.Said.Said, sound.Frame.Frame}
pub use Rattle.pcm_base.specs.{Causes.Rose, Mix.frame_at, Outside.SameElsewhere, Recordings.frame_bytes}
pub use Rattle.pin_turn.specs.{Calls.known, Counts.Each, declared.view.View.View}
pub use Rattle.sound_bounce.specs.Bounces.{AreLoads, BounceDeeds, FaultsBy, Files, GrowFails, Grows, Holds, IsGone}
pub use Rattle.sound_bounce.specs.Bounces.{IsLoadOf, IsReadIn, IsRefusedBy, IsUnread, IsWritten, Keeps, LetsGo}
pub use Rattle.sound_bounce.specs.Bounces.{LoadsAhead, LoadsAll, LoadsDone, LoadsEnd, LoadsOf, Moved, ReadsPin}
pub use Rattle.sound_bounce.specs.Bounces.{RefusedAs, Spares, Unasked, WasRefused, frames_by, frames_in, header_by}
pub use Rattle.sound_bounce.specs.Bounces.{header_in, length_by, length_in, loaded_frames, may_let_go, moved, own_in}
pub use Rattle.sound_bounce.specs.Bounces.{text_by}
pub use Rattle.std.proofs.Common.{Bool, Err, List, MatchResult, Ok, Option, Result, Some, [], ap, append_assoc, arith}
pub use Rattle.std.proofs.Common.{drop, false, inl, inr, length, refl, subst, sym, take, true, ℕ, ⊎_elim, ◌*◌, ◌++◌}
pub use Rattle.std.proofs.Common.{◌+◌, ◌-◌, ◌<◌, ◌∙◌, ◌∷◌, ◌≡◌, ◌≤◌, ◌⊎◌}
pub use Rattle.std.proofs.Math.Seq.{take-add, take-append_seam}
pub use Rattle.std.proofs.lemmas.List.{append-nil, length-take, take_all, FromFn.length-map-range_with_len}
pub use Rattle.std.specs.Prelude.{IfOk, IsTrue, OnErr, OnOk}
pub use Rattle.studio_seats.proofs.CallLemmas.{IsTaken, NoTurn, OneCall, one_call, own_on, reason_or}
pub use Rattle.studio_seats.proofs.{WorkLemmas.onward_as, OnwardLemmas.onward_on, OnwardLemmas.onward_self}
pub use Rattle.studio_seats.specs.Desks.{Says, asked, spent, start_at, views}
pub use Rattle.studio_seats.specs.declared.{deed.Deed.Deed, held.Held.Held}
pub use Rattle.studio_seats.specs.{Deeds.deed, Stands.origin, Merge.by_seat, Merge.deeds_of}
pub use Rattle.wav_pcm.specs.{Wavs.wav_head, Written.IsThere}
