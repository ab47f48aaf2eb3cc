-- Edits of a run: a track and those after it in the project, each by a plan of its new layout.
use Rattle.std.specs.Prelude.{◌≡◌, ℕ, ◌+◌, ◌≤◌, nat_le, if◌then◌else◌, List, [], ◌∷◌, ◌++◌, drop, length, Option, Some}
use Rattle.std.specs.Prelude.{None}
use Rattle.std.specs.List.{flat_map, AllByRecursion}
use Rattle.clip_track.specs.Clips.{IsLayout}
use Rattle.clip_track.specs.declared.kept.Kept.{Kept}
use Rattle.edit_ops.specs.declared.types.{NewBlock.NewBlock, Plan.Plan}
use Rattle.project_state.specs.declared.track.Track.{Track}
use Rattle.editor_state.specs.declared.planned.Planned.{Planned}
use Rattle.editor_tracks.specs.{Copies.run_of, TrackEdits.with_layout}

-- a track with the layout of the first of some plans
abbrev pub laid_by : List Plan → ℕ → Track → Track
laid_by [] number t = t
laid_by (p ∷ ps) number t = with_layout number t p.layout

-- The tracks whose ids are this one or greater with the layouts of plans, one after another, as far as there are plans.
-- The layouts have the numbers from one on.
abbrev pub laid_from : ℕ → List Plan → ℕ → List Track → List Track
laid_from id ps number [] = []
laid_from id ps number (t ∷ ts) =
    if nat_le id t.id then laid_by ps number t ∷ laid_from id (drop 1 ps) (number + 1) ts
    else t ∷ laid_from id ps number ts

-- the blocks that are to be made for plans
abbrev pub made_by : List Plan → List NewBlock
made_by ps = flat_map (λ (p : Plan). p.makes) ps

abbrev pub AreLayouts : List Plan → Type 0
AreLayouts ps = AllByRecursion (λ (p : Plan). IsLayout p.layout) ps

-- none of some plans keeps less
abbrev pub IsWithin : Kept → Kept → Type 0
IsWithin j k = (j.front ≤ k.front) × (j.back ≤ k.back)

abbrev pub AllKeep : Kept → List Plan → Type 0
AllKeep k ps = AllByRecursion (λ (p : Plan). IsWithin k p.kept) ps

-- a run that is being laid out: the plans that are left, the blocks that are to be made for those before, and the
-- number of the next layout
pub record Laying : Type 0 where
  pub plans : List Plan
  pub makes : List NewBlock
  pub number : ℕ

-- the track, or the one that stands for it, and the next number then
abbrev pub laid_or : Track → Option Track → Track
laid_or t None = t
laid_or t (Some laid) = laid

abbrev pub next_number : ℕ → Option Track → ℕ
next_number n None = n
next_number n (Some laid) = n + 1

-- One track is laid out, by the next plan where it is in the run: some plans are left, and their blocks come to others.
pub record Lays (id : ℕ) (old new : Laying) (t laid : Track) : Type 0 where
  pub id_is : laid.id ≡ t.id
  pub track : (ts : List Track)
      → laid_from id old.plans old.number (t ∷ ts) ≡ laid ∷ laid_from id new.plans new.number ts
  pub makes : new.makes ++ made_by new.plans ≡ old.makes ++ made_by old.plans
  pub layouts : AreLayouts new.plans → AreLayouts old.plans
  pub count : new.number + length new.plans ≡ old.number + length old.plans
  pub fits : (ts : List Track) → length old.plans ≤ length (run_of id (t ∷ ts))
      → length new.plans ≤ length (run_of id ts)

-- tracks with a run laid out by plans, and the blocks that are to be made for them, whose ids begin with the next one;
-- a layout by each plan
pub record IsRunPlan (id next number : ℕ) (old : List Track) (plans : List Plan) (p : Planned) : Type 0 where
  pub is : p.point ≡ laid_from id plans number old
  pub makes_is : p.makes ≡ made_by plans
  pub after_is : p.next ≡ next + length p.makes
  pub layouts : AreLayouts plans
  pub count : p.layouts ≡ length plans
  pub keep : AllKeep p.kept plans
