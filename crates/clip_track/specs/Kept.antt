-- Blocks that an edit leaves as they are, at the front of a track and at its back.
use Rattle.std.specs.Prelude.{◌≡◌, ◌+◌, ◌-◌, ◌≤◌, List, length, take, drop}
use Rattle.clip_track.specs.declared.kept.Kept.{Kept}

-- a list begins with so many elements of an old one, and ends with so many of them
pub record Keeps {A : Type 0} (k : Kept) (old new : List A) : Type 0 where
  pub in_old : k.front + k.back ≤ length old
  pub in_new : k.front + k.back ≤ length new
  pub front : take k.front new ≡ take k.front old
  pub back : drop (length new - k.back) new ≡ drop (length old - k.back) old
