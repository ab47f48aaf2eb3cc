-- A range of a run of tracks, taken out and put into the clipboard.
use Rattle.std.specs.Prelude.{◌≡◌, ◌⊎◌, Option, Some, None, List, take}
use Rattle.std.specs.List.{AllByRecursion}
use Rattle.pcm_base.specs.declared.edits.Removing.TheVariants.{Close, Leave}
use Rattle.pcm_base.specs.{declared.command.Command.Command, declared.refusal.Refusal.Refusal, Edits.removed}
use Rattle.pcm_base.specs.{Refusals.◌otherwise◌, declared.edits.Removing.Removing}
use Rattle.clip_track.specs.{declared.items.Item.Item, Items.AreItems}
use Rattle.edit_ops.specs.{declared.types.Plan.Plan, Runs.AreCopies, Runs.AreCuts, Runs.copy_tests}
use Rattle.project_state.specs.{declared.track.Track.Track, Tracks.track_of}
use Rattle.record_body.specs.Saved.{current_tracks}
use Rattle.editor_state.specs.{declared.planned.Planned.Planned, Core.Core, Points.lacks}
use Rattle.editor_tracks.specs.{declared.run_range.RunRange.RunRange, Copies.run_of, RunEdits.IsRunPlan}
use Rattle.editor_tracks.specs.{TrackEdits.plan_start}
use Rattle.pcm_base.specs.declared.command.Command.TheVariants as command
use Rattle.pcm_base.specs.declared.refusal.Refusal.TheVariants as refusal

-- the line that asks for it
abbrev pub cut_line : Removing → RunRange → Command
cut_line Close range = command.Cut range.track range.count range.from range.to
cut_line Leave range = command.SplitCut range.track range.count range.from range.to

-- what refuses it
abbrev pub cut_refusal : RunRange → List Track → Option Refusal
cut_refusal range ts = (lacks range.track (track_of range.track ts))
    otherwise (copy_tests (run_of range.track ts) range.count range.from range.to)

-- of a studio's project the tracks without the range, the blocks that are to be made for them, and the strips of what
-- goes
pub record IsCutPlan {D : Type 0} (e : Removing) (range : RunRange) (s : Core D) (p : Planned) : Type 0 where
  pub tests : cut_refusal range (current_tracks s.history) ≡ None
  pub plans : List Plan
  pub cuts : AreCuts (removed e range.from range.to) (plan_start s)
      (take range.count (run_of range.track (current_tracks s.history))) plans
  pub strips : List (List Item)
  pub copies : AreCopies range.from range.to (take range.count (run_of range.track (current_tracks s.history))) strips
  pub items : AllByRecursion AreItems strips
  pub laid : IsRunPlan range.track s.next_block s.next_layout (current_tracks s.history) plans p
  pub clip_is : p.clip ≡ Some strips

-- there are none: an own test refuses it, or there is no memory
abbrev pub NoCutPlan : {D : Type 0} → RunRange → Core D → Refusal → Type 0
NoCutPlan range s why = (cut_refusal range (current_tracks s.history) ≡ Some why) ⊎ (why ≡ refusal.NoMemory)
