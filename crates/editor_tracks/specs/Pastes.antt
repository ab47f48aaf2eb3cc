-- The strips of the clipboard, put into a run of tracks.
use Rattle.std.specs.Prelude.{◌≡◌, ◌⊎◌, ℕ, Option, Some, None, List, length, take}
use Rattle.std.specs.List.{AllByRecursion}
use Rattle.pcm_base.specs.Refusals.{◌otherwise◌, placed_length}
use Rattle.pcm_base.specs.{declared.refusal.Refusal.Refusal, Edits.placed, declared.edits.Placing.Placing}
use Rattle.clip_track.specs.{declared.items.Item.Item, Items.AreItems}
use Rattle.edit_ops.specs.{declared.types.Plan.Plan, Runs.ArePastes, Runs.clipboard_tests}
use Rattle.project_state.specs.{declared.track.Track.Track, Tracks.track_of}
use Rattle.record_body.specs.Saved.{current_tracks}
use Rattle.editor_state.specs.{declared.planned.Planned.Planned, Core.Core, Points.lacks}
use Rattle.editor_tracks.specs.{Copies.run_of, RunEdits.IsRunPlan, TrackEdits.plan_start}
use Rattle.pcm_base.specs.declared.refusal.Refusal.TheVariants as refusal

-- what refuses it
abbrev pub paste_refusal : Placing → (id at : ℕ) → Option (List (List Item)) → List Track → Option Refusal
paste_refusal e id at clip ts =
    (lacks id (track_of id ts)) otherwise (clipboard_tests (placed_length e at) clip (run_of id ts))

-- of a studio's project the tracks with the strips of its clipboard put in, and the blocks that are to be made for them
pub record IsPastePlan {D : Type 0} (e : Placing) (id at : ℕ) (s : Core D) (p : Planned) : Type 0 where
  pub tests : paste_refusal e id at s.clipboard (current_tracks s.history) ≡ None
  pub strips : List (List Item)
  pub clip_is : s.clipboard ≡ Some strips
  pub items : AllByRecursion AreItems strips
  pub plans : List Plan
  pub pastes : ArePastes (placed e at) (plan_start s) strips
      (take (length strips) (run_of id (current_tracks s.history))) plans
  pub laid : IsRunPlan id s.next_block s.next_layout (current_tracks s.history) plans p

-- there are none: an own test refuses it, or there is no memory
abbrev pub NoPastePlan : {D : Type 0} → Placing → (id at : ℕ) → Core D → Refusal → Type 0
NoPastePlan e id at s why =
    (paste_refusal e id at s.clipboard (current_tracks s.history) ≡ Some why) ⊎ (why ≡ refusal.NoMemory)
