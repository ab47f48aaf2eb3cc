-- Numbers that layouts get.
use Rattle.std.specs.Prelude.{◌≡◌, ◌⊎◌, ℕ, ◌+◌, ◌≤◌, List, ◌++◌, length, map}
use Rattle.pcm_base.specs.History.{History}
use Rattle.clip_track.specs.declared.clips.Clip.{Clip}
use Rattle.project_state.specs.{declared.track.Track.Track, Numbers.unnumbered}
use Rattle.layout_uses.specs.Laws.{AreAmong, IsAmong}
use Rattle.layout_uses.specs.Layouts.{AreDrawn, AreNumbered, history_tracks}

-- a layout gets the number of a current track that has it, or the next one
abbrev pub Draws : List Clip → List Track → ℕ → ℕ → Type 0
Draws layout current next number =
    ((t : Track) × IsAmong t current × (t.layout ≡ layout) × (t.number ≡ number)) ⊎ (number ≡ next)

-- The layouts of a point have numbers below one: a layout of the current point has its own, and each other one has a
-- new one, from the next on. Whatever is there beside the point, layouts of one number are the same.
pub record HasNumbers (current : List Track) (next : ℕ) (point : List Track) (after : ℕ) : Type 0 where
  pub least : next ≤ after
  -- whatever is there, the current tracks among it
  pub numbered : (ts : List Track) → AreNumbered ts → AreDrawn next ts → AreAmong current ts → AreNumbered (point ++ ts)
  pub drawn : (ts : List Track) → AreDrawn next ts → AreAmong current ts → AreDrawn after (point ++ ts)

-- A point of tracks gets numbers: each layout that a current track of its id has the number of that one, and each other
-- one of its own. A track that is there with its number keeps it.
pub record DrawsPoint (tracks current : List Track) (next : ℕ) (point : List Track) (after : ℕ) : Type 0 where
  pub same : map unnumbered point ≡ map unnumbered tracks
  pub least : next ≤ after
  pub most : after ≤ next + length tracks
  -- whatever is there, the current tracks among it
  pub numbered : (ts : List Track) → AreNumbered ts → AreDrawn next ts → AreAmong current ts → AreNumbered (point ++ ts)
  pub drawn : (ts : List Track) → AreDrawn next ts → AreAmong current ts → AreDrawn after (point ++ ts)

-- The layouts of a history's points have numbers: those of one number are the same, and each number is below the next
-- one. No number is 0, which says that a layout has none.
pub record IsNumbered (h : History (List Track)) (next : ℕ) : Type 0 where
  pub numbered : AreNumbered (history_tracks h)
  pub drawn : AreDrawn next (history_tracks h)
  pub least : 1 ≤ next
