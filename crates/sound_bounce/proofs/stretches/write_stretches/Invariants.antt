-- The loads so far, of which the last is in memory, and the frames of the one before it as well.
use Rattle.sound_bounce.proofs.Common.{◌-◌, ◌≤◌, length, take, known, views, LoadsAhead, moved}
use Rattle.pcm_base.specs.declared.limits.TheConstants.{COUNTER_LIMIT}
use Rattle.studio_seats.specs.Desks.{IsAt}
use Rattle.sound_bounce.specs.Bounces.{HasRoom}
use Rattle.sound_bounce.proofs.stretches.write_stretches.Given as goal

abbrev pub invariant-stretches : goal.invariant-stretches
invariant-stretches g l = record {
  same : IsAt l.task.desk.now l.seat;
  room : HasRoom l.batch l.buffers;
  fits : l.held ≤ l.batch;
  ahead : LoadsAhead l.pin l.batch l.from (take l.held l.buffers.held.items) l.loaded
      (views (known l.fn.seat) (known l.seat)) (moved g.V.Vault l.task.name.now l.fn.vault l.vault);
}

-- each turn makes the list longer, which has an end
abbrev pub decreases-stretches : goal.decreases-stretches
decreases-stretches g l = COUNTER_LIMIT - length (known l.seat).seen
