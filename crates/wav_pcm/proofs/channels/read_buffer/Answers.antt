-- The bytes of this number of frames have as many samples of a channel.
use Rattle.wav_pcm.proofs.Common.{◌≡◌, ◌<◌, ◌*◌, ◌/◌, ℕ, length, arith, sym, ap, ◌∙◌, mul-div_cancel_left}
use Rattle.std.proofs.{lemmas.Grind.common_steps}
use Rattle.wav_pcm.proofs.channels.read_buffer.Goals as goal

counted : (n m count size : ℕ) → 0 < n → m ≡ n → size ≡ 2 * n * count → count ≡ size / (2 * m)
counted n m count size some same is =
    sym (ap (λ (k : ℕ). size / (2 * k)) same ∙ ap (λ (k : ℕ). k / (2 * n)) is
    ∙ mul-div_cancel_left count (omega (arith, some)))

pub take_samples-requires-clause-size : goal.take_samples-requires-clause-size
take_samples-requires-clause-size g c =
    counted c.args.of.head.channels c.from.result (length c.args.out.now) (length c.read_some.new.buf)
    c.requires.shape.some c.from.ensures (grind (arith, common_steps))
