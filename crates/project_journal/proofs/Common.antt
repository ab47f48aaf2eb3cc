-- Names that several proofs of this crate use, from where they are declared.
pub use Rattle.byteorder.specs.Endian.{little_bytes, little_number}
pub use Rattle.byteorder.specs.Numbers.{little_from-take, little_number-reads_back}
pub use Rattle.disk_model.proofs.Frames.{changed_kept, changed_none, changed_then_stays, changed_turn, changed_wider}
pub use Rattle.disk_model.proofs.Frames.{kept_none, kept_turn, tells_back}
pub use Rattle.disk_model.proofs.Moments.{each_from, each_on, elsewhere_trans}
pub use Rattle.disk_model.specs.Disk.{Files, Follows, RemoveStep, SameElsewhere, StaysStep, TornFile, WriteStep}
pub use Rattle.disk_model.specs.Disk.{bytes_of}
pub use Rattle.disk_model.specs.Frames.{Changed, Kept}
pub use Rattle.disk_model.specs.Room.{Room, files_made}
pub use Rattle.disk_model.specs.{Moment.Moment, MomentLaws.upto_refl, declared.store.Store.Ghosts}
pub use Rattle.pcm_base.proofs.{Exits.exit_err, ListFacts.differ}
pub use Rattle.project_journal.specs.Journal.{AreWaiting, Contents, Ends, Entry, HasLog, HasOneOf, IsAt, IsCut, IsEntry}
pub use Rattle.project_journal.specs.Journal.{IsHeaded, IsHeader, IsJournal, IsLog, IsRead, IsRow, Log, Row, body_at}
pub use Rattle.project_journal.specs.Journal.{body_of, bytes_in, entry, entry_of, fresh, header_end, log_of, next_of}
pub use Rattle.project_journal.specs.Journal.{next_point, opened, placed, points_size, row, with_body}
pub use Rattle.project_journal.specs.{Choice.IsNewest, Choice.IsOlder, Choice.IsPicked, Choice.newer_test}
pub use Rattle.project_journal.specs.{Choice.other_file, Gate.EachNow, Gate.EachSince, Gate.HasGate, Gate.IsDurable}
pub use Rattle.project_journal.specs.{Fields.field, Packing.IsText, Packing.header_row, Start.IsUnset, Start.NoProject}
pub use Rattle.project_journal.specs.{Gate.IsOpen, Gate.IsShut, Gate.IsShutOrOpen, Reader.Goes, Reader.GoesOn}
pub use Rattle.project_journal.specs.{Header.IsProject, Header.Tested, Header.base_fields, Header.base_header_tests}
pub use Rattle.project_journal.specs.{Header.base_tests, Header.first_failed, Header.form_1, Header.form_3}
pub use Rattle.project_journal.specs.{Header.form_of, Header.last_tests, Header.nearest_size, Header.no_base}
pub use Rattle.project_journal.specs.{Header.wide_header_tests, Header.wide_tests, Header.zero_tests}
pub use Rattle.project_journal.specs.{Opening.Chooses, Opening.Opens, Opening.StartsIn, Opening.two_files}
pub use Rattle.project_journal.specs.{Reader.IsBegun, Reader.IsHeading, Reader.IsPlaced, Reader.IsStored}
pub use Rattle.project_journal.specs.{Reader.contents, Reader.reader_form, declared.base.Base.Base}
pub use Rattle.project_journal.specs.{Windows.HasRoomFor, Windows.IsHeldAt, Windows.IsView, Windows.LiesAfter}
pub use Rattle.project_journal.specs.{Windows.MayFollow, Windows.row_from, Choice.FailsIn, Choice.HasNoNewer}
pub use Rattle.project_journal.specs.{declared.fault.Damaged.Damaged, declared.fault.JournalFault.JournalFault}
pub use Rattle.project_journal.specs.{declared.fault.JournalFault.TheVariants.Absent}
pub use Rattle.project_journal.specs.{declared.fault.JournalFault.TheVariants.DiskFault}
pub use Rattle.project_journal.specs.{declared.fault.JournalFault.TheVariants.Exists}
pub use Rattle.project_journal.specs.{declared.fault.JournalFault.TheVariants.NoMemory}
pub use Rattle.project_journal.specs.{declared.fault.JournalFault.TheVariants.SpaceSpent, declared.reader.Reader.Reader}
pub use Rattle.project_journal.specs.{declared.records.Next.Next, declared.records.Next.TheVariants.Early}
pub use Rattle.project_journal.specs.{declared.records.Next.TheVariants.Shut, declared.records.Next.TheVariants.Whole}
pub use Rattle.project_journal.specs.{declared.window.Window.Window, Header.Form, Header.IsForm, Header.IsFormat}
pub use Rattle.std.proofs.Common.{Bool, Err, List, None, Ok, Option, Result, Some, [], ap, append_assoc, arith, cond}
pub use Rattle.std.proofs.Common.{drop, eqb, false, get_or, inl, inr, length, length-append, length-drop, ltb, map, max}
pub use Rattle.std.proofs.Common.{min, refl, replicate, subst, suc, sym, take, take-append-drop, true, zero, ℕ, ⊎_elim}
pub use Rattle.std.proofs.Common.{◌*◌, ◌++◌, ◌+◌, ◌-◌, ◌<◌, ◌^◌, ◌∙◌, ◌∷◌, ◌≡◌, ◌≢◌, ◌≤◌, ◌⊎◌}
pub use Rattle.std.proofs.lemmas.Bool.{cases_Bool, cases_eq, eq-eqb, eqb-true, le-ltb, ltb-false}
pub use Rattle.std.proofs.lemmas.List.{append-nil, drop-drop, drop-take, drop_all, drop_at, get_or-take}
pub use Rattle.std.proofs.lemmas.List.{get_or_append_left, length-map, length-replicate, length-take, length-take-le}
pub use Rattle.std.proofs.lemmas.List.{map-append, take-take, take_all, take_at, take_min}
pub use Rattle.std.proofs.lemmas.Result.{on_ok_weaker}
pub use Rattle.std.specs.List.{AllByRecursion, flat_map}
pub use Rattle.std.specs.Prelude.{IsTrue, if◌then◌else◌, nat_lt, slice_index, ◌==◌}
