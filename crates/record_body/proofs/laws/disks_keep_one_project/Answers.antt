-- What a disk keeps is one project.
use Rattle.record_body.proofs.SavedOnce.{keeps_once}
use Rattle.record_body.proofs.laws.disks_keep_one_project.Goals as goal

pub returns : goal.returns
returns c = keeps_once
