-- The lists before this one have grown, and the others are as they were.
use Rattle.wav_pcm.proofs.Common.{◌≡◌, ◌≤◌, ◌<◌, ◌++◌, ℕ, ℤ, Vec, Global, get_or, channel_of}
use Rattle.wav_pcm.proofs.interleaved.append_channels.Given as goal

abbrev pub invariant-loop-c : goal.invariant-loop-c
invariant-loop-c l = record {
  grown : (j : ℕ) (d : Vec ℤ Global) → j < l.c
      → (get_or l.lists j d).items ≡ (get_or l.initial.lists j d).items ++ channel_of l.n l.buffer j;
  same : (j : ℕ) (d : Vec ℤ Global) → l.c ≤ j → get_or l.lists j d ≡ get_or l.initial.lists j d;
}
