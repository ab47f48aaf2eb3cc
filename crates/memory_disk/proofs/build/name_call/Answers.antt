-- A file that is not named is another one than that of the call.
use Rattle.memory_disk.proofs.Names.{still_absent, other_next}
use Rattle.memory_disk.proofs.build.name_call.Goals as goal

pub returns-in_ok-insert-in-Write : goal.returns-in_ok-insert-in-Write
returns-in_ok-insert-in-Write c = λ h was f absent.
    let call = c.args.call.now in
    let apart =
    still_absent call.file f c.args.there.now c.insert.new.self c.in_ok-insert-in-Write.ensures.updates absent in
    other_next call.kind call.file call.at _ h f apart.0 (was f apart.1)
