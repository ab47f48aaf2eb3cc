-- A write and then a sync.
use Rattle.std.proofs.Common.{arith}
use Rattle.disk_model.proofs.Frames.{changed_then_stays}
use Rattle.disk_model.proofs.through.write_through.Goals as goal

pub returns-in_err-sync_file-clause-changed : goal.returns-in_err-sync_file-clause-changed
returns-in_err-sync_file-clause-changed g c =
    changed_then_stays (record { files = omega arith; bytes = omega arith; calls = omega arith })
    c.write_file.ensures.changed c.sync_file.ensures.changed

pub returns-clause-changed : goal.returns-clause-changed
returns-clause-changed g c =
    changed_then_stays (record { files = omega arith; bytes = omega arith; calls = omega arith })
    c.write_file.ensures.changed c.sync_file.ensures.changed
