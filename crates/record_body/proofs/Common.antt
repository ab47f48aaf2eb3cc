-- Names that several proofs of this crate use, from where they are declared.
pub use Rattle.byteorder.specs.{Numbers.little_number-reads_back, Endian.little_bytes, Endian.little_number}
pub use Rattle.clip_track.specs.Clips.{AllHalfFull, AreClips, IsLayout, clip_end, end_of, layout_blocks}
pub use Rattle.clip_track.specs.declared.clips.Clip.{Clip}
pub use Rattle.pcm_base.proofs.Exits.{exit_err}
pub use Rattle.pcm_base.specs.Blocks.{AllFull, IsHalfFull, NoneEmpty, block_lens, blocks_len}
pub use Rattle.pcm_base.specs.History.{History, edited, recorded}
pub use Rattle.pcm_base.specs.{Pieces.Sources, declared.block.BlockRef.BlockRef, declared.sound.Side.Side}
pub use Rattle.project_journal.proofs.{AnyFormats.Pass, AnyFormats.all_pass, Headers.none_first, Headers.some_first}
pub use Rattle.project_journal.specs.{Fields.field, Header.first_failed, declared.fault.Damaged.Damaged}
pub use Rattle.project_state.proofs.Points.{AllBelow-higher, AllBelow-push, drop_some, take_some}
pub use Rattle.project_state.specs.Numbers.{AgreesIfAny, AreNewOrCurrent, AreUnnumbered, unnumbered}
pub use Rattle.project_state.specs.Tracks.{AllBelow, AreAbove, track_of}
pub use Rattle.project_state.specs.{Meaning.point_blocks}
pub use Rattle.project_state.specs.{declared.track.Track.Track, Meaning.history_blocks, Meaning.meant}
pub use Rattle.block_sequence.specs.Fronts.{common, is_block}
pub use Rattle.record_body.specs.{ChangePlaces.all_diff_at, ChangePlaces.all_diff_widths, ChangePlaces.asked_delta}
pub use Rattle.record_body.specs.{ChangePlaces.change_at, ChangePlaces.delta_widths, ChangePlaces.diff_at}
pub use Rattle.record_body.specs.{ChangePlaces.diff_size, ChangePlaces.diff_widths, ChangePlaces.fresh_at}
pub use Rattle.record_body.specs.{ChangePlaces.gone_at, ChangePlaces.mark_at, ChangePlaces.whole_at}
pub use Rattle.record_body.specs.{ChangeTests.all_diff_tests, ChangeTests.change_tests, ChangeTests.commit_test}
pub use Rattle.record_body.specs.{ChangeTests.delta_edit_tests, ChangeTests.delta_kind_test}
pub use Rattle.record_body.specs.{ChangeTests.delta_length_test, ChangeTests.delta_tests, ChangeTests.diff_tests}
pub use Rattle.record_body.specs.{ChangeTests.how_tests, ChangeTests.id_tests, ChangeTests.is_lone}
pub use Rattle.record_body.specs.{ChangeTests.kept_blocks, ChangeTests.mark_tests, ChangeTests.mark_want}
pub use Rattle.record_body.specs.{ChangeTests.marked_tests, ChangeTests.tail_head_tests, ChangeTests.tail_tests}
pub use Rattle.record_body.specs.{ChangeTests.whole_tests, FirstFault.Finds, FirstFault.block_tests}
pub use Rattle.record_body.specs.{Changes.Change, Changes.Same, Changes.Tail, Changes.Whole, Changes.change_bytes}
pub use Rattle.record_body.specs.{Changes.change_of, Changes.changed, Changes.delta_spelling}
pub use Rattle.record_body.specs.{Changes.diff_bytes, Changes.heard_bytes, Changes.last_blocks}
pub use Rattle.record_body.specs.{Changes.last_start, Changes.same_but_last, Changes.same_clip, Changes.same_clips}
pub use Rattle.record_body.specs.{Changes.same_settings, Changes.tailed, Changes.with_last}
pub use Rattle.record_body.specs.{DeltaBodies.SaysBody, Laws.EndsShort, Laws.HasShortEnds, Lengths.AreHalfFull}
pub use Rattle.record_body.specs.{FirstFault.blocks_tests, FirstFault.body_tests, FirstFault.clip_head_tests}
pub use Rattle.record_body.specs.{FirstFault.clip_tests, FirstFault.clips_tests, FirstFault.edit_tests}
pub use Rattle.record_body.specs.{FirstFault.head_tests, FirstFault.kind_test, FirstFault.least, FirstFault.least_len}
pub use Rattle.record_body.specs.{FirstFault.length_test, FirstFault.limits_at, FirstFault.place}
pub use Rattle.record_body.specs.{FirstFault.settings_tests, FirstFault.track_tests, FirstFault.tracks_tests}
pub use Rattle.record_body.specs.{Lengths.AreLayouts, Numbers.BodyAgrees, Numbers.unnumbered_body, Told.AddsTold}
pub use Rattle.record_body.specs.{Places.block_at, Places.block_count, Places.blocks_at, Places.body_at, Places.clip_at}
pub use Rattle.record_body.specs.{Places.clip_count, Places.clip_end_at, Places.clip_size, Places.clips_at}
pub use Rattle.record_body.specs.{Places.clips_size, Places.edit_at, Places.lens_at, Places.side_of, Places.track_at}
pub use Rattle.record_body.specs.{Places.track_count, Places.track_size, Places.tracks_at, Places.tracks_size}
pub use Rattle.record_body.specs.{PointTests.point_count, PointTests.point_head_tests, PointTests.point_length_test}
pub use Rattle.record_body.specs.{PointTests.point_limits, PointTests.point_widths, declared.body.Body.Body}
pub use Rattle.record_body.specs.{Saved.IsNextIn, Saved.LeadIn, Saved.Saved, Saved.after_body, Saved.before_of}
pub use Rattle.record_body.specs.{Saved.current_tracks, Saved.first_tracks, Saved.new_project, Saved.point_bytes}
pub use Rattle.record_body.specs.{Spelling.clip_bytes, Spelling.mute_byte, Spelling.side_byte, Spelling.spelling}
pub use Rattle.record_body.specs.{Spelling.track_bytes, PointTests.asked_point, PointTests.point_at}
pub use Rattle.record_body.specs.{Told.AreDiff, Told.BodyShares, Told.ReadsBody, Told.ReadsEdit, Spelling.block_bytes}
pub use Rattle.record_body.specs.{Valid.AllValidTracks, Valid.EditBody, Valid.IsValidBody, Valid.IsValidEdit}
pub use Rattle.record_body.specs.{Valid.IsValidPoint, Valid.IsValidTagged, Valid.IsValidTrack, Saved.Begins}
pub use Rattle.record_body.specs.{Widths.Reaches, Widths.asked_length, Widths.blocks_widths, Widths.clip_widths}
pub use Rattle.record_body.specs.{Widths.clips_widths, Widths.edit_widths, Widths.reach, Widths.total_width}
pub use Rattle.record_body.specs.{Widths.track_widths, Widths.tracks_widths, ChangePlaces.HaveDiff}
pub use Rattle.record_body.specs.{declared.body.Body.TheVariants.Edit, declared.body.Body.TheVariants.Purge}
pub use Rattle.record_body.specs.{declared.body.Body.TheVariants.Redo, declared.body.Body.TheVariants.Undo}
pub use Rattle.record_body.specs.{declared.limits.BadBody.BadBody, declared.limits.Before.Before}
pub use Rattle.record_body.specs.{declared.limits.Limits.Limits, Valid.AllClipsGiven, Valid.AllGiven}
pub use Rattle.sample_block.proofs.Numerals.{IsBytes, IsBytes-drop}
pub use Rattle.std.proofs.Common.{Bool, Err, IfOk, List, None, Ok, Option, Result, Some, [], ap, append_assoc, ap₂}
pub use Rattle.std.proofs.Common.{arith, drop, false, get_or, if◌then◌else◌, inl, inr, length, length-append}
pub use Rattle.std.proofs.Common.{length-drop, map, min, nat_le, nat_lt, refl, slice_get, slice_index, subst, suc, sym}
pub use Rattle.std.proofs.Common.{take, true, zero, ℕ, ◌&&◌, ◌*◌, ◌++◌, ◌+◌, ◌-◌, ◌/◌, ◌<◌, ◌==◌, ◌^◌, ◌∙◌, ◌∷◌, ◌≡◌}
pub use Rattle.std.proofs.Common.{◌≤◌, ◌⊎◌}
pub use Rattle.std.proofs.lemmas.Bool.{cases_Bool, cases_lt, eq-eqb, eqb-false, eqb-true, le-leb, lt-ltb, ltb-true}
pub use Rattle.std.proofs.lemmas.List.{append-nil, drop_all, drop_more, length-map, take_all, take_more}
pub use Rattle.std.proofs.lemmas.Option.{none-some}
pub use Rattle.std.specs.{Option.option_map, List.AllByRecursion, List.flat_map}
