use Rattle.std.proofs.Common.{◌+◌, ◌*◌, length}
use Rattle.project_folder.proofs.syncing.+fn-sync_parts-join+arg3+sync_parts.Given as goal

abbrev pub decreases-join+arg3 : goal.decreases-join+arg3
decreases-join+arg3 g l = 2 * length l.rest.now + 1

abbrev pub decreases-sync_parts : goal.decreases-sync_parts
decreases-sync_parts g l = 2 * length l.files.now
