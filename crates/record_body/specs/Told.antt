-- What is read by the current point: without the numbers of layouts it is what the bytes say. A track that is said to
-- be the same is the current one, with its number, and each other one has no number.
use Rattle.std.specs.Prelude.{◌≡◌, ℕ, Option, Some, List, [], ◌∷◌, ◌++◌, map}
use Rattle.project_state.specs.declared.track.Track.{Track}
use Rattle.project_state.specs.Numbers.{AreNewOrCurrent, IsNewOrCurrent, unnumbered}
use Rattle.record_body.specs.declared.body.Body.TheVariants.{Edit, Undo, Redo, Purge}
use Rattle.record_body.specs.ChangePlaces.{all_diff_at, change_at}
use Rattle.record_body.specs.DeltaBodies.{SaysBody, SaysEdit}
use Rattle.record_body.specs.{declared.body.Body.Body, Changes.changed, Numbers.unnumbered_body}

-- One track more stands after others: what is said at a place by this track of the current point, or by none.
pub record AddsTold (current : List Track) (old : Option Track) (at : ℕ) (bytes : List ℕ) (before after : List Track)
    : Type 0 where
  pub track : Track
  pub added : after ≡ before ++ track ∷ []
  pub said : changed old (change_at at bytes) ≡ Some (unnumbered track)
  pub number : IsNewOrCurrent current track

-- this number of tracks, from a place on
pub record AreDiff (current : List Track) (count at : ℕ) (bytes : List ℕ) (ts : List Track) : Type 0 where
  pub said : map Some (map unnumbered ts) ≡ all_diff_at current count at bytes
  pub numbers : AreNewOrCurrent current ts

-- the tracks of a body have no numbers, or are current ones
abbrev pub BodyShares : List Track → Body → Type 0
BodyShares current (Edit tag next_block next_track tracks) = AreNewOrCurrent current tracks
BodyShares current Undo = Unit {0}
BodyShares current Redo = Unit {0}
BodyShares current (Purge n) = Unit {0}

abbrev pub ReadsEdit : List Track → List ℕ → Body → Type 0
ReadsEdit current bytes body = SaysEdit current bytes (unnumbered_body body) × BodyShares current body

abbrev pub ReadsBody : List Track → List ℕ → Body → Type 0
ReadsBody current bytes body = SaysBody current bytes (unnumbered_body body) × BodyShares current body
