-- One stretch more is written, and one more loaded.
use Rattle.sound_bounce.proofs.Common.{◌++◌, [], append-nil, arith, known, loaded_frames, refl, sym, take}
use Rattle.sound_bounce.proofs.StretchLemmas.{ahead_done, ahead_lost, ahead_on, ahead_refused, first_ahead}
use Rattle.sound_bounce.proofs.StretchLemmas.{loads_none, loads_refused, loads_self}
use Rattle.sound_bounce.proofs.stretches.write_stretches.Goals as goal

pub returns-then-len-eq0-clause-loads : goal.returns-then-len-eq0-clause-loads
returns-then-len-eq0-clause-loads g c =
    loads_none (omega (arith, c.if-len-eq0.true)) (loads_self (known c.args.seat.now) c.args.vault.now c.requires.there)

pub returns-in-Err-clause-loads : goal.returns-in-Err-clause-loads
returns-in-Err-clause-loads g c =
    loads_refused c.args.mix.len (loads_self (known c.args.seat.now) c.args.vault.now c.requires.there)
    c.in-Err.ensures.load

pub stretches-init : goal.stretches-init
stretches-init g c = record {
  same = c.load_stretch.ensures.same;
  room = c.requires.room;
  fits = omega arith;
  ahead = first_ahead c.args.vault.now c.load_stretch.new.loaded c.requires.there c.in-Ok.ensures.load;
}

pub stretches-preserved : goal.stretches-preserved
stretches-preserved g c =
    let step = rw c.in-Ok-load.is at c.in-Ok-mix_and_load.ensures.done in
    let room = c.mix_and_load.ensures.room in
    record {
      same = c.mix_and_load.ensures.same;
      room = rw c.swap-in-Ok-load.ensures.x_after (rw c.swap-in-Ok-load.ensures.y_after (room.1, room.0, room.2));
      fits = c.stretches.invariant.ahead.fits;
      ahead = rw c.swap.ensures.x_after (rw c.swap-in-Ok-load.ensures.y_after (rw c.mix_and_load.ensures.mixed
          (ahead_on c.stretches.invariant.ahead step.0 step.1)));
    }

pub returns-in-Err-load-clause-loads : goal.returns-in-Err-load-clause-loads
returns-in-Err-load-clause-loads g c =
    let step = rw c.in-Err-load.is at c.in-Ok-mix_and_load.ensures.done in
    ahead_refused c.stretches.invariant.ahead c.args.mix.len step.0 step.1

pub returns-in-Err-mix_and_load-clause-loads : goal.returns-in-Err-mix_and_load-clause-loads
returns-in-Err-mix_and_load-clause-loads g c =
    let step = c.in-Err-mix_and_load.ensures.done in
    let held = take c.stretches.held c.stretches.buffers.held.items in
    let done = ahead_lost c.stretches.invariant.ahead c.args.mix.len held (loaded_frames c.stretches.loaded) refl step.0 in
    rw step.1 done

pub returns-in-Ok-write_last-clause-loads : goal.returns-in-Ok-write_last-clause-loads
returns-in-Ok-write_last-clause-loads g c =
    ahead_done c.stretches.invariant.ahead c.stretches-test.false c.in-Ok-write_last.ensures

pub returns-clause-loads : goal.returns-clause-loads
returns-clause-loads g c =
    let held = take c.stretches.held c.stretches.buffers.held.items in
    let all = held ++ loaded_frames c.stretches.loaded in
    ahead_lost c.stretches.invariant.ahead c.args.mix.len all [] (sym (append-nil all)) c.in-Err-write_last.ensures
