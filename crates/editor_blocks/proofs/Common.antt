-- Names that several proofs of this crate use, from where they are declared.
pub use Rattle.block_ledger.specs.Counts.{Counts}
pub use Rattle.block_sequence.specs.Origins.{AllFrom}
pub use Rattle.block_writer.specs.{Brought.AreInOrder, Reading.AllThere, Reading.IsThere}
pub use Rattle.clip_track.specs.Clips.{layout_blocks}
pub use Rattle.disk_model.proofs.Frames.{Fewer, changed_then_stays, changed_turn, changed_wider}
pub use Rattle.disk_model.specs.Disk.{Files, SameElsewhere, StaysStep}
pub use Rattle.disk_model.specs.Room.{IsWithin, Room, together}
pub use Rattle.disk_model.specs.{Frames.Changed, MomentLaws.upto_refl, declared.store.Store.Ghosts}
pub use Rattle.edit_ops.specs.Plans.{AllNewFrom, AreNew, AreOldOrNew, AreWritten, ref_of}
pub use Rattle.edit_ops.specs.declared.types.NewBlock.{NewBlock}
pub use Rattle.editor_state.{proofs.Blocks.BlockLists.contained, proofs.Calls.FileRemovals.RemovesNone}
pub use Rattle.editor_state.{proofs.Images.SameMeaning.same_studio, proofs.Lists.all_left, proofs.Lists.all_right}
pub use Rattle.editor_state.{proofs.Lists.all_so, proofs.Refusals.EarlyRefusals.stopped_not, specs.Adding.HasFailed}
pub use Rattle.editor_state.{specs.Adding.stopped_by, specs.Core.Core, specs.Edits.beside, specs.Left.CountsIds}
pub use Rattle.editor_state.{specs.Left.IsSoOf, specs.Left.Left, specs.Made.AllInOrder, specs.Made.AreAbsent}
pub use Rattle.editor_state.{specs.Made.AreMade, specs.Made.PiecesThere, specs.Made.SameOutside, specs.Made.batch_of}
pub use Rattle.editor_state.{specs.Made.ids_from, specs.Makes.AddsFree, specs.Makes.AreSynced, specs.Makes.HasMissed}
pub use Rattle.editor_state.{specs.Makes.IsDamageAmong, specs.Makes.IsOfDevices, specs.Makes.MadeOne}
pub use Rattle.editor_state.{specs.Makes.Making, specs.Makes.NotMade, specs.Makes.Stuck, specs.Makes.Unput}
pub use Rattle.editor_state.{specs.Makes.Unread, specs.Makes.Written, specs.Makes.made_room, specs.Makes.one_call}
pub use Rattle.editor_state.{specs.Spent.Needed, specs.Studios.IsGiven, specs.Studios.IsHeld, specs.Studios.IsStudio}
pub use Rattle.editor_state.{specs.Studios.named_blocks, specs.Studios.shown, specs.Studios.studio_of, specs.Took.Took}
pub use Rattle.editor_state.{specs.Took.asks, specs.Took.with_sound}
pub use Rattle.pcm_base.proofs.Pieces.{length-all_samples, stretch_list}
pub use Rattle.pcm_base.specs.Pieces.{Sources, all_samples, samples_of, stretch, total}
pub use Rattle.pcm_base.specs.declared.{answer.Reply.Reply, block.BlockRef.BlockRef, command.Call.Call}
pub use Rattle.pcm_base.specs.declared.{entry.SoundMove.SoundMove, refusal.Refusal.Refusal}
pub use Rattle.pcm_base.specs.declared.{piece.Piece.TheVariants.Given, piece.Piece.TheVariants.Old}
pub use Rattle.pcm_base.specs.declared.{piece.Piece.TheVariants.Scaled, piece.Piece.TheVariants.Zero}
pub use Rattle.pcm_base.specs.declared.{wav.WavFault.TheVariants.Truncated, piece.Piece.Piece}
pub use Rattle.pcm_base.specs.{Counters.Needs, Run.Answers, Run.outside}
pub use Rattle.project_journal.specs.Gate.{EachNow, EachSince}
pub use Rattle.project_state.specs.declared.track.Track.{Track}
pub use Rattle.record_body.specs.Saved.{Keeps}
pub use Rattle.sample_block.specs.{Blocks.blocks, Spelling.size_of, Sources.IsWhole, Sources.sources_with}
pub use Rattle.std.proofs.Common.{Bool, Contains, Err, IsSome, IsTrue, List, None, Ok, Option, Result, Some, [], ap}
pub use Rattle.std.proofs.Common.{ap₂, arith, false, get_or, if◌then◌else◌, inl, inr, length, map, pos, refl, rules}
pub use Rattle.std.proofs.Common.{subst, suc, sym, take, true, zero, ℕ, ℤ, ⊎_elim, ◌*◌, ◌++◌, ◌+◌, ◌<◌, ◌^◌, ◌∙◌, ◌∷◌}
pub use Rattle.std.proofs.Common.{◌≡◌, ◌≤◌, ◌⊎◌}
pub use Rattle.std.proofs.lemmas.{List.take_more, Option.same_Some, Bool.Decides.eqb_tells, Bool.cases_lt, Bool.eq-eqb}
pub use Rattle.std.specs.List.{AllByRecursion}
