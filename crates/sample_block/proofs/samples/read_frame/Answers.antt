-- The samples that were read are those of the frame.
use Rattle.std.proofs.Common.{◌≡◌, ◌<◌, ◌+◌, ◌*◌, ◌-◌, ℕ, ℤ, List, length, min, take, drop, arith, ◌∙◌, ap, length-drop}
use Rattle.std.proofs.{lemmas.List.take_min, lemmas.Grind.common_steps}
use Rattle.sample_block.specs.Faults.{samples_in}
use Rattle.sample_block.proofs.Laws.{samples_stretch, length_samples}
use Rattle.sample_block.proofs.samples.read_frame.Goals as goal

frame_taken : (bytes : List ℕ) (out : List ℤ) (len i count n : ℕ) → 256 * i < len → count ≡ min (len - 256 * i) 256
    → n ≡ count → out ≡ samples_in bytes (16 + 512 * i) n
    → out ≡ take 256 (drop (256 * i) (samples_in bytes 16 len))
frame_taken bytes out len i count n below few same got =
    let xs : List ℤ = samples_in bytes 16 len in
    let rest : List ℤ = drop (256 * i) xs in
    let place : 16 + 512 * i ≡ 16 + 2 * (256 * i) = omega arith in
    let most : count ≡ min 256 (length rest) =
    omega (arith, few, length-drop (256 * i) xs, length_samples bytes 16 len) in
    got ∙ ap (samples_in bytes (16 + 512 * i)) same ∙ ap (λ (m : ℕ). samples_in bytes m count) place
    ∙ samples_stretch bytes len (256 * i) count (omega (arith, few, below))
    ∙ ap (λ (m : ℕ). take m rest) most ∙ take_min 256 rest

pub returns-clause-samples : goal.returns-clause-samples
returns-clause-samples c =
    frame_taken c.args.bytes.now c.read_samples.new.out c.args.len c.args.i c.min-count.result _
    (omega (arith, c.requires.within)) c.min-count.ensures (grind (arith, common_steps)) c.read_samples.ensures
