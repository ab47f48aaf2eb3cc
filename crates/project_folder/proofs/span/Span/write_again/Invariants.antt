use Rattle.std.proofs.Common.{◌-◌}
use Rattle.project_folder.proofs.span.Span.write_again.Given as goal

abbrev pub decreases-loop-at : goal.decreases-loop-at
decreases-loop-at g l = l.self.to - l.at
