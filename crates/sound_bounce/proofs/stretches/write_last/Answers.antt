-- The frames that were mixed before are appended, and then those of the last stretch.
use Rattle.sound_bounce.proofs.Common.{take, loaded_frames}
use Rattle.sound_bounce.proofs.StretchLemmas.{both_grow, first_fails}
use Rattle.sound_bounce.proofs.stretches.write_last.Goals as goal

pub returns-in-Err : goal.returns-in-Err
returns-in-Err g c =
    first_fails (take c.args.held c.args.buffers.now.held.items) (loaded_frames c.args.loaded.now)
    (rw c.deref.ensures.value at c.in-Err.ensures)

pub returns : goal.returns
returns g c =
    both_grow (take c.args.held c.args.buffers.now.held.items) (loaded_frames c.args.loaded.now)
    c.append_mixed.new.vault c.append_mixed.result (rw c.deref.ensures.value at c.in-Ok.ensures) c.append_mixed.ensures
