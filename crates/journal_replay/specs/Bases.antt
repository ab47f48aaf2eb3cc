-- The project that the header of a journal brings, and the first fault of its points.
use Rattle.std.specs.Prelude.{ℕ, ◌+◌, Option, None, List, [], ◌∷◌, length, map}
use Rattle.std.specs.Option.{option_or}
use Rattle.project_journal.specs.{declared.base.Base.Base, declared.fault.Damaged.Damaged, Header.first_failed}
use Rattle.project_journal.specs.{Journal.Contents}
use Rattle.record_body.specs.{declared.limits.Before.Before, Saved.Saved, Saved.new_project, PointTests.point_at}
use Rattle.record_body.specs.{PointTests.point_tests}

-- what comes before a point of a header that stands at this place
abbrev pub point_before : Base → ℕ → Before
point_before b at = record { at = at; next_block = b.next_block; next_track = b.next_track; commits = b.commit }

-- the first fault of points, the first one's length being at this place
abbrev pub points_fault : ℕ → Base → ℕ → List (List ℕ) → Option Damaged
points_fault m b at [] = None
points_fault m b at (p ∷ ps) =
    option_or (first_failed (point_tests m (point_before b (at + 4)) p)) (points_fault m b (at + 4 + length p) ps)

-- the project of a header's points
abbrev pub header_base : ℕ → Base → List (List ℕ) → Saved
header_base depth b points = record {
  history = record { points = map point_at points; cursor = b.cursor; depth = depth };
  next_block = b.next_block;
  next_track = b.next_track;
  commit = b.commit;
}

-- one without commits where the header has no points
abbrev pub base_by : List (List ℕ) → ℕ → Base → Saved
base_by [] depth b = new_project depth
base_by (p ∷ ps) depth b = header_base depth b (p ∷ ps)

abbrev pub base_of : Contents → Saved
base_of j = base_by j.points j.depth j.base
