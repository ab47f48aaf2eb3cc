-- The first k places hold their samples.
use Rattle.wav_pcm.proofs.Common.{◌≡◌, ◌+◌, ◌*◌, map, take, range_with_len, i16_at}
use Rattle.wav_pcm.proofs.stereo.take_one.Given as goal

abbrev pub invariant-loop-k : goal.invariant-loop-k
invariant-loop-k l = take l.k l.out ≡ map (λ k. i16_at l.body (2 * (2 * k + l.c))) (range_with_len 0 l.k)
