-- What layouts keep of others that are counted.
use Rattle.std.specs.Prelude.{◌≡◌, ◌⊎◌, List}
use Rattle.clip_track.specs.declared.kept.Kept.{Kept}
use Rattle.project_state.specs.{Kept.KeepsTracks, declared.track.Track.Track}
use Rattle.layout_uses.specs.{declared.tally.Tally.Tally, Laws.AreAmong, Tallies.MayBecome}

-- The tracks of a point keep so many blocks of those of another one, which are counted and agree with them.
pub record KeepsCounted (k : Kept) (base point : List Track) (t : Tally) : Type 0 where
  pub before : List Track
  pub among : AreAmong base before
  pub may : MayBecome point before t
  pub keeps : KeepsTracks k base point

-- or nothing is said to stay
abbrev pub MayKeep : Kept → (base point : List Track) → Tally → Type 0
MayKeep k base point t = ((k.front ≡ 0) × (k.back ≡ 0)) ⊎ KeepsCounted k base point t
