-- Names that several proofs of this crate use, from where they are declared.
pub use Rattle.block_ledger.specs.Counts.{Counts, IsNamed, SetsCount, occurrences, one_less, one_more, times}
pub use Rattle.block_ledger.specs.Entries.{count_of}
pub use Rattle.row_ledger.specs.Lists.{IsSame, ListComes, ListGoes, RowsState, counts_of, list_of, singles_of}
pub use Rattle.clip_track.specs.{Clips.layout_blocks, declared.clips.Clip.Clip}
pub use Rattle.layout_uses.specs.{Drawing.DrawsPoint, Drawing.HasNumbers, Drawing.IsNumbered, Occurrences.Dropped}
pub use Rattle.layout_uses.specs.{Layouts.Agree, Layouts.AgreesWith, Layouts.AreDrawn, Layouts.AreNumbered}
pub use Rattle.layout_uses.specs.{Layouts.has_number, Layouts.history_tracks, Layouts.numbers_of, Layouts.points_tracks}
pub use Rattle.layout_uses.specs.{Layouts.track_blocks, Layouts.used_blocks}
pub use Rattle.layout_uses.specs.{Occurrences.AreSingle, Occurrences.HasAll, Occurrences.HasIds, Occurrences.HasLayout}
pub use Rattle.layout_uses.specs.{Occurrences.Held, Occurrences.Names, Occurrences.NamesLayout, Occurrences.Unnames}
pub use Rattle.layout_uses.specs.{Occurrences.UnnamesLayout, Occurrences.ids_of, Occurrences.times_named}
pub use Rattle.layout_uses.specs.{Tallies.AreCounts, Tallies.Comes, Tallies.Goes, Tallies.Has, Tallies.IsTally}
pub use Rattle.layout_uses.specs.{Layouts.one_each, Tallies.IsListed, Tallies.Uses, Tallies.unlisted, Tallies.uses_of}
pub use Rattle.layout_uses.specs.{declared.tally.Tally.Tally, Laws.AreAmong, Laws.IsAmong, Drawing.Draws}
pub use Rattle.pcm_base.specs.History.{History, IsHistory, amended, edited, history_of_one, point_of, points_of, purged}
pub use Rattle.pcm_base.specs.History.{recorded}
pub use Rattle.pcm_base.specs.declared.block.BlockRef.{BlockRef}
pub use Rattle.project_state.proofs.Plain.{plain_new, tracks_plain}
pub use Rattle.project_state.proofs.Points.{drop_some, put_other, put_same, take_some}
pub use Rattle.project_state.specs.Tracks.{AllBelow, put_in, track_of}
pub use Rattle.project_state.specs.{declared.track.Track.Track, Numbers.unnumbered, Numbers.unnumbered_history}
pub use Rattle.std.proofs.Common.{Bool, IsSome, List, None, Option, Some, [], ap, append_assoc, arith, drop, eqb, false}
pub use Rattle.std.proofs.Common.{if◌then◌else◌, inl, inr, length, length-append, map, refl, slice_get, subst, suc, sym}
pub use Rattle.std.proofs.Common.{take, take-append-drop, true, zero, ℕ, ⊎_elim, ◌++◌, ◌+◌, ◌-◌, ◌<◌, ◌^◌, ◌∙◌, ◌∷◌}
pub use Rattle.std.proofs.Common.{◌≡◌, ◌≤◌, ◌⊎◌}
pub use Rattle.std.proofs.lemmas.Bool.{cases_eq, eq-eqb, ne_eqb}
pub use Rattle.std.proofs.lemmas.List.{append-nil, drop-map, length-map, length-take, map-append}
pub use Rattle.std.proofs.lemmas.{Grind.flat_map-append, Option.slice_get-get_or, Option.slice_get_read}
