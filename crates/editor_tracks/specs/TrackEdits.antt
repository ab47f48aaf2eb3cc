-- Edits of one track, each by a plan of its new layout.
use Rattle.std.specs.Prelude.{◌≡◌, ◌⊎◌, ℕ, suc, ◌+◌, ◌≤◌, ℤ, Option, Some, None, List, length}
use Rattle.pcm_base.specs.{declared.command.Call.Call, declared.entry.SoundMove.SoundMove}
use Rattle.pcm_base.specs.{declared.refusal.Refusal.Refusal, declared.sound.Cell.Cell, Cells.cells_at, Cells.edited_at}
use Rattle.pcm_base.specs.{Counters.layouts_of, History.recorded, Outside.Outside, Pieces.Sources, Refusals.◌otherwise◌}
use Rattle.pcm_base.specs.{Refusals.call_tests, Refusals.no_track, State.State, State.current, Step.after}
use Rattle.clip_track.specs.declared.clips.Clip.{Clip}
use Rattle.clip_track.specs.Clips.{end_of, IsLayout, layout_blocks, layout_cells}
use Rattle.clip_track.specs.Kept.{Keeps}
use Rattle.edit_ops.specs.{declared.types.Plan.Plan, Plans.Start, Plans.IsPlan, Plans.Means}
use Rattle.block_writer.specs.{declared.given.Given.Given, Bringing.brought}
use Rattle.project_state.specs.{declared.track.Track.Track, Tracks.track_of}
use Rattle.record_body.specs.Saved.{current_tracks}
use Rattle.editor_state.specs.Points.{put_in, lacks}
use Rattle.editor_state.specs.{declared.planned.Planned.Planned, Core.Core, Edits.IsEditCall}
use Rattle.pcm_base.specs.declared.refusal.Refusal.TheVariants as refusal

-- a track with another layout, which has this number
abbrev pub with_layout : ℕ → Track → List Clip → Track
with_layout number t layout = record t { number = number; layout = layout }

abbrev pub end_of_track : Option Track → ℕ
end_of_track None = 0
end_of_track (Some t) = end_of 0 t.layout

-- what refuses the edit of a track: that there is none, or what its length says
abbrev pub track_refusal : ℕ → (ℕ → Option Refusal) → Option Track → Option Refusal
track_refusal id test found = (lacks id found) otherwise (test (end_of_track found))

-- What an edit makes of the cells of a track, by the samples that the command brings; what refuses it, by the track's
-- length; and how many blocks it may make, by the block size and the cells before it.
pub record TrackEdit : Type 0 where
  pub cells : (ℕ → ℤ) → List Cell → List Cell
  pub test : ℕ → Option Refusal
  pub most : ℕ → List Cell → ℕ

-- where a plan of an edit of a studio begins
abbrev pub plan_start : {D : Type 0} → Core D → Start
plan_start s = record { block_size = s.block_size; next = s.next_block }

-- of a studio's project the tracks with the one of an id edited, which takes up this many samples, and the blocks that
-- are to be made for it
pub record IsTrackPlan {D : Type 0} (e : TrackEdit) (count id : ℕ) (s : Core D) (p : Planned) : Type 0 where
  pub track : Track
  pub found : track_of id (current_tracks s.history) ≡ Some track
  pub tests : e.test (end_of 0 track.layout) ≡ None
  pub plan : Plan
  pub is_plan : IsPlan (plan_start s) (layout_blocks track.layout) count plan
  pub keeps : Keeps plan.kept (layout_blocks track.layout) (layout_blocks plan.layout)
  pub means : Means (λ src. e.cells src.given) track.layout plan
  pub layout : IsLayout plan.layout
  pub few : (src : Sources) → length plan.makes ≤ e.most s.block_size (layout_cells src track.layout)
  pub is : p.point ≡ put_in (with_layout s.next_layout track plan.layout) (current_tracks s.history)
  pub makes_is : p.makes ≡ plan.makes
  pub after_is : p.next ≡ plan.next
  pub layouts_is : p.layouts ≡ 1
  pub kept_is : p.kept ≡ plan.kept

-- there is none: an own test refuses it, or there is no memory
abbrev pub NoTrackPlan : TrackEdit → ℕ → List Track → Refusal → Type 0
NoTrackPlan e id old why = (track_refusal id e.test (track_of id old) ≡ Some why) ⊎ (why ≡ refusal.NoMemory)

-- An edit of the track of an id, with what its command brings, under a tag, where 0 is none, as this many commits beside
-- one.
pub record TrackCommand : Type 0 where
  pub edit : TrackEdit
  pub given : Given
  pub id : ℕ
  pub tag : ℕ
  pub more : ℕ

abbrev pub track_command : TrackEdit → Given → (id tag more : ℕ) → TrackCommand
track_command edit given id tag more = record { edit = edit; given = given; id = id; tag = tag; more = more }

-- A call of this meaning. Of each such call these are all `refl`.
pub record IsTrackCall (c : Call) (sound : SoundMove) (it : TrackCommand) : Type 0 where
  pub call : IsEditCall c sound 0 it.more (λ m s. it.edit.most m (cells_at it.id (current s)))
  pub own : (out : Outside) (s : State) → call_tests out s c
      ≡ ((no_track s it.id) otherwise (it.edit.test (length (cells_at it.id (current s)))))
  pub layouts_is : (out : Outside) (s : State) → layouts_of out s c ≡ 1
  pub after_is : (out : Outside) (s : State) → after out s c
      ≡ record s {
        history = recorded s.history (edited_at it.id (it.edit.cells (brought it.given)) (current s)) it.tag;
        commit = s.commit + suc it.more;
      }
