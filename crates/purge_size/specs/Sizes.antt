-- How many bytes the files of blocks have, and how many points a purge drops for that.
use Rattle.std.specs.Prelude.{◌≡◌, ◌⊎◌, ℕ, ◌+◌, ◌≤◌, ◌<◌, ◌==◌, Bool, true, false, if◌then◌else◌, List, [], ◌∷◌, drop}
use Rattle.pcm_base.specs.{declared.block.BlockRef.BlockRef, History.History, History.points_of}
use Rattle.sample_block.specs.Spelling.{size_of}
use Rattle.project_state.specs.declared.track.Track.{Track}
use Rattle.layout_uses.specs.Layouts.{points_tracks, track_blocks}

-- one of these blocks has the id
abbrev pub has_id : ℕ → List BlockRef → Bool
has_id id [] = false
has_id id (b ∷ bs) = if b.id == id then true else has_id id bs

-- the sizes of the files of these blocks, of each id once
abbrev pub sizes : List BlockRef → ℕ
sizes [] = 0
sizes (b ∷ bs) = (if has_id b.id bs then 0 else size_of b.len) + sizes bs

-- the size of the points of a history but the n oldest
abbrev pub size_without : History (List Track) → ℕ → ℕ
size_without h n = sizes (track_blocks (points_tracks (drop n (points_of h))))

-- The least number of points, up to the current one, without which the others have at most this many bytes; or all
-- those before the current one where there is none.
pub record IsPurgeTo (h : History (List Track)) (most n : ℕ) : Type 0 where
  pub within : n ≤ h.cursor
  pub fits : (size_without h n ≤ most) ⊎ (n ≡ h.cursor)
  pub least : (k : ℕ) → k < n → most < size_without h k
