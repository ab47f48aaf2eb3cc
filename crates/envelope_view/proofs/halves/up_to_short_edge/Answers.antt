-- What is before the frame, the front of its samples, and the rest of them.
use Rattle.envelope_view.proofs.Common.{◌≡◌, ◌-◌, ◌∙◌, ℕ, ℤ, List, take, drop, ap, arith, take_rest, common_steps}
use Rattle.envelope_view.proofs.Common.{summary_of, part}
use Rattle.envelope_view.proofs.{KeptLaws.part_in, SumLaws.part_joined}
use Rattle.envelope_view.proofs.BlockReads.{block_err, block_ok, samples_next}
use Rattle.envelope_view.proofs.HalvesLaws.{front_part, back_part}
use Rattle.envelope_view.proofs.halves.up_to_short_edge.Goals as goal

pub returns-in_err-front : goal.returns-in_err-front
returns-in_err-front g c = block_err _ c.from_residual.ensures.1 c.in_err-front.ensures
    (part_in _ c.args.block c.args.at.from c.args.at.to c.args.at.from c.args.start (omega arith)
    (omega (arith, c.requires.before, c.requires.behind)))

pub returns-in_err-read_samples : goal.returns-in_err-read_samples
returns-in_err-read_samples g c = block_err _ c.from_residual-in_err-read_samples.ensures.1
    (samples_next _ c.args.at.from c.args.at.to c.in_ok-front.ensures c.in_err-read_samples.ensures c.requires.rising
    (omega (arith, c.requires.before, c.requires.behind)) (grind (arith, common_steps))) (λ has. has)

pub returns : goal.returns
returns g c = block_ok
    (samples_next _ c.args.at.from c.args.at.to c.in_ok-front.ensures c.in_ok-read_samples.ensures c.requires.rising
    (omega (arith, c.requires.before, c.requires.behind)) (grind (arith, common_steps))) (λ has. has) (λ xs of got.
    let start : ℕ = c.args.start in
    let edge : ℕ = c.args.at.edge in
    let stop : ℕ = c.args.at.to in
    let out : List ℤ = c.read_samples.new.out in
    let low = c.requires.before in
    let high = c.requires.behind in
    let read : out ≡ take (stop - start) (drop start xs) = got.1
    ∙ ap (λ (k : ℕ). take k (drop start xs)) (grind (arith, common_steps)) in
    let own : c.of.result ≡ summary_of (part start edge xs) =
    c.of.ensures.exact
    ∙ ap summary_of (front_part start edge stop xs out (omega (arith, low)) (omega (arith, high)) read) in
    let before : c.join-before.result ≡ summary_of (part c.args.at.from edge xs) =
    c.join-before.ensures.exact
    ∙ part_joined c.args.at.from start edge xs c.in_ok-front.front c.of.result of.fit of.few c.requires.rising
    (omega (arith, low)) got.0 own in
    let after : c.of-after.result ≡ summary_of (part edge stop xs) =
    c.of-after.ensures.exact
    ∙ ap summary_of (take_rest out (edge - start)
    ∙ back_part start edge stop xs out (omega (arith, low)) (omega (arith, high)) read) in
    (before, after))
