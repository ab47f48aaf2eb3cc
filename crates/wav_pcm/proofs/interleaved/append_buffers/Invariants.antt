-- The lists have grown by the frames before the rest.
use Rattle.wav_pcm.proofs.Common.{◌≡◌, ◌<◌, ◌++◌, ℕ, ℤ, Vec, Global, length, get_or, channel_of}
use Rattle.wav_pcm.proofs.interleaved.append_buffers.Given as goal

abbrev pub invariant-loop-rest : goal.invariant-loop-rest
invariant-loop-rest l = record {
  long : length l.lists ≡ length l.initial.lists;
  grown : (c : ℕ) (d : Vec ℤ Global) → c < length l.initial.lists
      → (get_or l.lists c d).items ++ channel_of (length l.initial.lists) l.rest c ≡ (get_or l.initial.lists c d).items
      ++ channel_of (length l.initial.lists) l.body c;
}

abbrev pub decreases-loop-rest : goal.decreases-loop-rest
decreases-loop-rest l = length l.rest
