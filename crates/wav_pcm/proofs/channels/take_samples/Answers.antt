-- The samples of bytes fit 16 bits.
use Rattle.wav_pcm.proofs.Common.{ℤ, List, sym, subst, FitSamples}
use Rattle.wav_pcm.proofs.SampleLaws.{channel_fits}
use Rattle.wav_pcm.proofs.channels.take_samples.Goals as goal

pub returns-in-1-clause-fit : goal.returns-in-1-clause-fit
returns-in-1-clause-fit c =
    subst (λ (xs : List ℤ). FitSamples xs) (sym c.take_mono.ensures) (channel_fits 1 c.args.body.now 0 c.type_inv.body)

pub returns-in-2-clause-fit : goal.returns-in-2-clause-fit
returns-in-2-clause-fit c =
    subst (λ (xs : List ℤ). FitSamples xs) (sym c.take_one.ensures)
    (channel_fits 2 c.args.body.now c.args.c c.type_inv.body)

pub returns-in_default-clause-fit : goal.returns-in_default-clause-fit
returns-in_default-clause-fit c =
    subst (λ (xs : List ℤ). FitSamples xs) (sym c.take_channel.ensures)
    (channel_fits c.args.n c.args.body.now c.args.c c.type_inv.body)
