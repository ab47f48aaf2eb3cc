-- None of those from there on is the file.
use Rattle.std.proofs.Common.{◌≢◌, ◌≤◌, drop, length}
use Rattle.std.specs.Prelude.{All}
use Rattle.project_folder.proofs.open_files.place_in.Given as goal

abbrev pub invariant-places : goal.invariant-places
invariant-places g l = (l.place ≤ length l.handles) × All (λ handle. handle.file ≢ l.file) (drop l.place l.handles)

abbrev pub decreases-places : goal.decreases-places
decreases-places g l = l.place
