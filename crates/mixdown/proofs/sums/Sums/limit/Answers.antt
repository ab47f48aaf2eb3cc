-- One frame more is stored.
use Rattle.mixdown.proofs.Common.{◌≡◌, ℤ, refl, arith, ◌∙◌, to_z, of_z, w32, ints, take_more_set}
use Rattle.mixdown.proofs.Common.{map-range_with_len_more, ◌+ℤ◌, sum_in, limited, frame_in}
use Rattle.mixdown.proofs.sums.Sums.limit.Goals as goal

frame_is : (a b l r : ℤ) → a ≡ l → b ≡ r → limited a b ≡ limited l r
frame_is a b l r el er = rw (el, er) refl

pub loop-k-preserved : goal.loop-k-preserved
loop-k-preserved c =
    let self = c.args.self.now in
    let more =
    map-range_with_len_more (frame_in self.both self.left self.right) 0 c.loop-k.k c.loop-k.k (omega arith) in
    let stored = take_more_set c.loop-k.out c.loop-k.k c.limited.result (omega arith) in
    let both = c.requires.both c.loop-k.k (omega arith) in
    let left = c.requires.left c.loop-k.k (omega arith) in
    let right = c.requires.right c.loop-k.k (omega arith) in
    let here : c.limited.result ≡ frame_in self.both self.left self.right c.loop-k.k =
    c.limited.ensures ∙ frame_is (to_z w32 (of_z w32 c.add.result))
    (to_z w32 (of_z w32 c.add-in-loop-k.result)) (sum_in self.both c.loop-k.k +ℤ sum_in self.left c.loop-k.k)
    (sum_in self.both c.loop-k.k +ℤ sum_in self.right c.loop-k.k) (omega (arith, ints, both, left, c.add.ensures.value))
    (omega (arith, ints, both, right, c.add-in-loop-k.ensures.value)) in
    cc
