-- One track more.
use Rattle.std.proofs.Common.{false}
use Rattle.pcm_base.specs.{declared.sound.Side.TheVariants.Both, declared.sound.TrackLine.TrackLine}
use Rattle.script_text.specs.Text.{track_text}
use Rattle.script_text.proofs.GatheringLemmas.{adds_one_more}
use Rattle.script_text.proofs.tracks.put_tracks.Goals as goal

abbrev none : TrackLine
none = record { id = 0; gain = 0; side = Both; mute = false; len = 0 }

pub loop-track-preserved : goal.loop-track-preserved
loop-track-preserved g c = record {
  bytes = adds_one_more track_text c.args.tracks.now c.loop-track.track-index none _ _ _ _ _ _ c.loop-track-test.true
      c.loop-track.invariant.bytes c.put_track.ensures.bytes;
  cause = λ before counted. c.put_track.ensures.cause before (c.loop-track.invariant.cause before counted);
}
