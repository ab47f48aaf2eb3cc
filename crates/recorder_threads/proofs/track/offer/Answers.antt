-- The numbers of the chunks that were taken.
use Rattle.std.proofs.Common.{ℕ, ℤ, List, ◌+◌, ◌-◌, ◌++◌, ap, ◌∙◌}
use Rattle.pcm_base.specs.Arithmetic.{counted_from}
use Rattle.recorder_threads.proofs.DrainLemmas.{pieces-taken, taken-few}
use Rattle.pcm_base.proofs.ListFacts.{length-counted_from}
use Rattle.recorder_threads.proofs.track.offer.Goals as goal

pub returns-in-Ok-clause-taken : goal.returns-in-Ok-clause-taken
returns-in-Ok-clause-taken g c =
    let t = rw c.in-Ok.is at c.take_pieces-what.ensures.taken in
    let same = rw c.in-Ok.is at c.take_pieces-what.ensures.unrefused in
    let count : ℕ = c.in-Ok.field-0.count in
    let n : ℕ = c.in-Ok.field-0.last - count in
    let places : ℕ = c.places_for-places.result in (
      t.some,
      taken-few count places c.args.chunks.now t.few c.places_for-places.ensures.few,
      (
        counted_from (n + 1) count,
        length-counted_from (n + 1) count,
        c.list_numbers.ensures
            ∙ ap (λ (l : List ℕ). l ++ counted_from (n + 1) count) c.places_for-places.ensures.items,
        t.are ∙ ap (λ (l : List (List ℤ × ℕ)). g.T.PieceTaker.pieces c.args.taker.now ++ l)
            (pieces-taken n count places c.args.chunks.now t.few c.places_for-places.ensures.few),
        same,
      ),
    )
