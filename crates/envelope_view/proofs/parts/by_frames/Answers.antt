-- Frames that follow one another are joined.
use Rattle.envelope_view.proofs.BlockReads.{frames_sum}
use Rattle.envelope_view.proofs.parts.by_frames.Goals as goal

pub returns : goal.returns
returns g c = frames_sum c.args.level _ c.requires.rising c.requires.within (record {
  reads = c.join_frames.ensures.reads;
  hit = c.join_frames.ensures.hit;
  read = λ told xs e len. c.join_frames.ensures.read xs told e len;
})
