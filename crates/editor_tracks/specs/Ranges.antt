-- Edits of a range of one track.
use Rattle.std.specs.Prelude.{ℕ}
use Rattle.pcm_base.specs.Edits.{range_edited, range_of}
use Rattle.pcm_base.specs.{Counters.blocks_of_edit, Refusals.bad_range, declared.edits.RangeEdit.RangeEdit}
use Rattle.editor_tracks.specs.TrackEdits.{TrackEdit}

abbrev pub range_edit : RangeEdit → (from to : ℕ) → TrackEdit
range_edit e from to =
    record {
      cells = λ given. range_edited e from to;
      test = bad_range from to;
      most = λ m cells. blocks_of_edit e m (range_of from to cells);
    }
