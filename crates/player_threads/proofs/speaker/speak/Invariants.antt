-- The frames that were received so far were written, up to a fault.
use Rattle.std.proofs.Common.{◌≡◌, false, List, length}
use Rattle.pcm_base.specs.declared.sound.Frame.{Frame}
use Rattle.play_ring.specs.Ends.{received, sounds, SameOut}
use Rattle.player_threads.specs.Spoken.{Writes, speaker_state, written_by}
use Rattle.player_threads.proofs.speaker.speak.Given as goal

abbrev pub invariant-loop : goal.invariant-loop
invariant-loop g l = record {
  done : List Frame;
  so_far : received l.output ≡ sounds done;
  writes : Writes (speaker_state g.P.Sink l.fn.speaker) (speaker_state g.P.Sink l.speaker) (written_by l.progress) done;
  goes : (first : g.row.P.Denot) → g.P.Sink.follows first false l.fn.speaker
      → g.P.Sink.follows first l.progress.fault l.speaker;
  ring : SameOut l.fn.output l.output;
  wide : length l.frames ≡ 256;
}
