-- Each list has grown by a buffer more.
use Rattle.wav_pcm.proofs.Common.{◌*◌, length, ◌∙◌, arith}
use Rattle.wav_pcm.proofs.BufferLaws.{buffer_more}
use Rattle.wav_pcm.proofs.interleaved.append_buffers.Goals as goal

pub loop-rest-preserved : goal.loop-rest-preserved
loop-rest-preserved c =
    let long = c.loop-rest.invariant.long in
    record {
      long = c.in_ok-append_channels.ensures.0 ∙ long;
      grown = λ j d lt. buffer_more (length c.args.lists.now) (length c.loop-rest.lists) 1024
          (2 * length c.args.lists.now * 1024) _ j c.loop-rest.rest.now _ _ _ lt long (omega arith)
          (omega (arith, c.loop-rest-test.true)) (omega arith) (c.loop-rest.invariant.grown j d lt)
          (c.in_ok-append_channels.ensures.1 j d (omega (arith, lt, long)));
    }
