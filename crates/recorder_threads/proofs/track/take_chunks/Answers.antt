-- Chunks that were taken or refused.
use Rattle.std.proofs.Common.{◌≡◌, ℕ, ℤ, List, ◌<◌, ◌+◌, ◌-◌, ◌++◌, length, take, drop, sum_by, Some, sym, ap, ◌∙◌}
use Rattle.std.proofs.Common.{subst, arith}
use Rattle.std.proofs.lemmas.List.{length-drop, length-map, length-take-le, take-map}
use Rattle.pcm_base.specs.Parts.{Part}
use Rattle.edit_ports.specs.Answers.{samples_of}
use Rattle.recorder_threads.specs.Drained.{Takes, taker_state, taken_by}
use Rattle.recorder_threads.proofs.DrainLemmas.{Takes-refused, Takes-taken, rest-is, taken-long, taken-more, taken-rest}
use Rattle.recorder_threads.proofs.track.take_chunks.Goals as goal

pub chunks-preserved : goal.chunks-preserved
chunks-preserved g c =
    let i = c.chunks.invariant in
    let k = c.in-Ok.ensures.taken in
    let at : ℕ = c.chunks.at in
    let count : ℕ = c.in-Ok.count in
    let rest : List Part = take (length c.args.chunks.now - at) (drop at c.args.chunks.now) in
    let is = rest-is c.args.chunks.now at in
    let xs : List (List ℤ) = take count (samples_of rest) in
    let sum : c.samples_in.result ≡ sum_by length xs = c.samples_in.ensures.value
    ∙ ap (sum_by length) (sym (take-map (λ (c : Part). c.samples) count rest)) in
    let long : length (take count rest) ≡ count = length-take-le count rest k.1 in
    let left : length rest ≡ length c.args.chunks.now - at = ap length is ∙ length-drop at c.args.chunks.now in record {
      within = omega (arith, k.1, left, i.within, c.chunks-test.true);
      going = i.going;
      unrefused = k.2.4 ∙ i.unrefused;
      takes = λ start before t.
          subst (λ (z : ℕ × List (List ℤ)). Takes start (taker_state g.T.PieceTaker c.offer.new.taker)
          record {
            numbers = c.offer.new.numbers.items;
            samples = c.chunks.tally.samples + z.0;
            refused = c.chunks.tally.refused;
          } z.1)
          (λ i. (sym sum i, taken-more before c.args.chunks.now rest at count is i))
          (Takes-taken start (taker_state g.T.PieceTaker c.chunks.taker)
          (taker_state g.T.PieceTaker c.offer.new.taker) (taken_by c.chunks.tally) c.offer.new.numbers.items k.2.0
          (before ++ take at (samples_of c.args.chunks.now)) xs i.going k.2.2 (k.2.1 ∙ sym (taken-long count rest k.1))
          k.2.3 k.2.4 (i.takes start before t));
      grows = omega (arith, c.samples_in.ensures.few, long, i.grows);
      goes = λ first h. c.offer.ensures.goes first (rw i.unrefused at (i.goes first h));
    }

pub returns-in-Err-clause-takes : goal.returns-in-Err-clause-takes
returns-in-Err-clause-takes g c = λ start before t.
    let i = c.chunks.invariant in
    let at : ℕ = c.chunks.at in
    let rest : List Part = take (length c.args.chunks.now - at) (drop at c.args.chunks.now) in
    let is = rest-is c.args.chunks.now at in
    let all = length-map rest (λ (c : Part). c.samples) in
    let left : length rest ≡ length c.args.chunks.now - at = ap length is ∙ length-drop at c.args.chunks.now in
    let some : 0 < length (samples_of rest) = omega (arith, all, left, c.chunks-test.true) in
    subst (λ (l : List (List ℤ)). Takes start (taker_state g.T.PieceTaker c.offer.new.taker)
    record {
      numbers = c.offer.new.numbers.items;
      samples = c.chunks.tally.samples;
      refused = Some c.in-Err.reason;
    } l)
    (taken-rest before c.args.chunks.now rest at is)
    (Takes-refused start (taker_state g.T.PieceTaker c.chunks.taker) (taker_state g.T.PieceTaker c.offer.new.taker)
    (taken_by c.chunks.tally) c.offer.new.numbers.items c.in-Err.reason
    (before ++ take at (samples_of c.args.chunks.now)) (samples_of rest) i.going some c.in-Err.ensures.left.0
    c.in-Err.ensures.left.1 c.in-Err.ensures.cause (i.takes start before t))
