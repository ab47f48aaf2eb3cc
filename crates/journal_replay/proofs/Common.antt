-- Names that several proofs of this crate use, from where they are declared.
pub use Rattle.disk_model.{specs.declared.store.Store.Ghosts, proofs.Frames.kept_none, proofs.Frames.kept_turn}
pub use Rattle.journal_replay.specs.Bases.{base_by, base_of, point_before, points_fault}
pub use Rattle.journal_replay.specs.Faults.{IsSaid, before_at, field_tests, first_fault_in, history_tests, out_of_range}
pub use Rattle.journal_replay.specs.Folds.{HasLayoutNumbers, IsBrought, IsValid, saved_of}
pub use Rattle.journal_replay.specs.Heads.{DrawsFew, HasPoints, MetOne, ReadsOn, TellsPoint}
pub use Rattle.journal_replay.specs.declared.project.Project.{Project}
pub use Rattle.layout_uses.specs.Drawing.{IsNumbered}
pub use Rattle.pcm_base.{proofs.Exits.exit_err, specs.History.History, specs.History.at_cursor, specs.History.purged}
pub use Rattle.project_journal.proofs.{Parses.form_known, AnyFormats.HasBase, AnyFormats.all_pass}
pub use Rattle.project_journal.specs.{Answer.NoFault, Header.Form, Header.first_failed, Header.form_of}
pub use Rattle.project_journal.specs.{Journal.Contents, Journal.Log, Journal.body_at, Journal.log_of}
pub use Rattle.project_journal.specs.{Journal.points_size, declared.base.Base.Base, declared.fault.Damaged.Damaged}
pub use Rattle.project_journal.specs.{Reader.IsHeading, Reader.IsLater, Reader.IsPlaced, Reader.IsReading}
pub use Rattle.project_journal.specs.{Reader.contents, Reader.last_record, Reader.reader_form}
pub use Rattle.project_journal.specs.{declared.fault.JournalFault.JournalFault, declared.reader.Reader.Reader}
pub use Rattle.project_journal.specs.{declared.records.Next.Next, declared.records.Next.TheVariants.Shut, Reader.Goes}
pub use Rattle.project_state.specs.Numbers.{AreUnnumbered, unnumbered, unnumbered_history}
pub use Rattle.project_state.specs.declared.track.Track.{Track}
pub use Rattle.record_body.proofs.ValidBodies.{tracks_unnumbered}
pub use Rattle.record_body.specs.{ChangeTests.delta_tests, DeltaBodies.SaysBody, Numbers.unnumbered_body}
pub use Rattle.record_body.specs.{PointTests.point_at, PointTests.point_count, Valid.IsValidBody, Valid.IsValidTagged}
pub use Rattle.record_body.specs.{Saved.IsNextIn, Saved.LeadIn, Saved.MayFollow, Saved.Saved, Saved.after_body}
pub use Rattle.record_body.specs.{Saved.before_of, Saved.current_tracks, Saved.new_project, Saved.point_bytes}
pub use Rattle.record_body.specs.{Saved.version_of}
pub use Rattle.record_body.specs.{Spelling.spelling, Told.BodyShares, FirstFault.Finds, FirstFault.body_tests}
pub use Rattle.record_body.specs.{declared.body.Body.Body, declared.body.Body.TheVariants.Edit}
pub use Rattle.record_body.specs.{declared.body.Body.TheVariants.Purge, declared.body.Body.TheVariants.Redo}
pub use Rattle.record_body.specs.{declared.body.Body.TheVariants.Undo, declared.limits.BadBody.BadBody}
pub use Rattle.record_body.specs.{declared.limits.Before.Before, Saved.Begins, Saved.BeginsBy, Saved.IsHeaderBase}
pub use Rattle.std.proofs.Common.{Err, List, None, Ok, Option, Result, Some, [], ap, append_assoc, arith, inl, inr}
pub use Rattle.std.proofs.Common.{length, length-append, map, refl, slice_get, subst, suc, sym, zero, ℕ, ⊎_elim, ◌*◌}
pub use Rattle.std.proofs.Common.{◌++◌, ◌+◌, ◌-◌, ◌<◌, ◌^◌, ◌∙◌, ◌∷◌, ◌≡◌, ◌≤◌}
pub use Rattle.std.proofs.lemmas.{Bool.eq-eqb, List.append-nil, List.length-map}
pub use Rattle.std.specs.{List.AllByRecursion, Option.option_or, Prelude.IfOk, Prelude.MatchResult, Prelude.⊤}
