-- The bytes of the first frames stand in front.
use Rattle.std.proofs.Common.{◌≡◌, ◌*◌, take}
use Rattle.pcm_base.specs.Recordings.{frame_bytes}
use Rattle.player_threads.proofs.bytes.put_frames.Given as goal

abbrev pub invariant-loop-i : goal.invariant-loop-i
invariant-loop-i l = take (4 * l.i) l.bytes ≡ frame_bytes (take l.i l.frames)
