-- One sample more is stored.
use Rattle.wav_pcm.proofs.Common.{◌+◌, ◌*◌, arith}
use Rattle.wav_pcm.proofs.SampleLaws.{sample_more}
use Rattle.wav_pcm.proofs.stereo.take_one.Goals as goal

pub loop-k-preserved : goal.loop-k-preserved
loop-k-preserved c =
    sample_more c.args.body.now (λ k. 2 * (2 * k + c.args.c)) c.loop-k.out c.loop-k.k (4 * c.loop-k.k + 2 * c.args.c)
    c.i16_at.result (omega arith) (record { sfits = c.i16_at.type_inv }) c.i16_at.ensures (omega arith)
    c.loop-k.invariant
