-- One track more is summed.
use Rattle.mixdown.proofs.Common.{◌≡◌, ◌<◌, ◌≤◌, ◌+◌, ◌*◌, ◌^◌, ℕ, ℤ, pos, ◌-◌, List, length, take, drop, get_or}
use Rattle.mixdown.proofs.Common.{length-drop, arith, refl, ap, ◌∙◌, get_or-take, get_or-drop, length-take}
use Rattle.mixdown.proofs.Common.{mul-le-mul_right, ◌+ℤ◌, nat_abs, scaled, Both, Project, frame_at, laid, left_sum}
use Rattle.mixdown.proofs.Common.{right_sum, sum_in, weight_in, limited, frame_in}
use Rattle.std.proofs.Common.{replicate}
use Rattle.std.proofs.lemmas.List.{get_or-replicate}
use Rattle.mixdown.specs.declared.sums.TheConstants.{PIECE}
use Rattle.mixdown.proofs.LaidLaws.{left_start, left_more, left_end, right_start, right_more, right_end}
use Rattle.mixdown.proofs.PieceLaws.{same_piece}
use Rattle.mixdown.proofs.mix.mix_piece.Goals as goal

-- a sum that has grown with one track more
bound_more : (t a b : ℕ) → a ≤ b + 2 ^ 19 → b ≤ t * 2 ^ 19 → a ≤ (t + 1) * 2 ^ 19
bound_more t a b grown so_far = omega (arith, grown, so_far)

nothing_in : (xs : List ℤ) (n k : ℕ) → k < n → xs ≡ replicate n (pos 0) → sum_in xs k ≡ pos 0
nothing_in xs n k lt is = ap (λ (ys : List ℤ). sum_in ys k) is ∙ get_or-replicate n k (pos 0) (pos 0) lt

-- what a sample of a part weighs
weighs_part : (g from n k at : ℕ) (S : List ℤ) → k < n → from + k ≡ at
    → weight_in g (take (from + n - from) (drop from S)) k ≡ scaled g (get_or S at (pos 0))
weighs_part g from n k at S lt e =
    let size : from + n - from ≡ n = omega arith in
    ap (scaled g) (get_or-take (from + n - from) (drop from S) k (pos 0) (omega (arith, size, lt))
    ∙ get_or-drop from S k (pos 0) ∙ ap (λ (j : ℕ). get_or S j (pos 0)) e)

within_part : (from n k : ℕ) (S : List ℤ) → k < n → from + n ≤ length S
    → k < length (take (from + n - from) (drop from S))
within_part from n k S lt le = omega (arith, lt, le, length-take (from + n - from) (drop from S), length-drop from S)

frame_is : (a b l r : ℤ) → a ≡ l → b ≡ r → limited a b ≡ limited l r
frame_is a b l r el er = rw (el, er) refl

pub loop-t-init : goal.loop-t-init
loop-t-init c =
    let zero_both = λ (k : ℕ) (lt : k < PIECE). nothing_in c.new-sums.result.both PIECE k lt c.new-sums.ensures.both in
    let zero_left = λ (k : ℕ) (lt : k < PIECE). nothing_in c.new-sums.result.left PIECE k lt c.new-sums.ensures.left in
    let zero_right = λ (k : ℕ) (lt : k < PIECE). nothing_in c.new-sums.result.right PIECE k lt c.new-sums.ensures.right in
    record {
      left = λ k lt. left_start c.args.len (c.args.at + k) c.args.stretches.now c.args.gains.now c.args.sides.now _ _
          (zero_both k (omega (arith, lt, c.requires.piece))) (zero_left k (omega (arith, lt, c.requires.piece)));
      right = λ k lt. right_start c.args.len (c.args.at + k) c.args.stretches.now c.args.gains.now c.args.sides.now _ _
          (zero_both k (omega (arith, lt, c.requires.piece))) (zero_right k (omega (arith, lt, c.requires.piece)));
      both_bound = λ k lt. omega (arith, ap nat_abs (zero_both k (omega (arith, lt, c.requires.piece))));
      left_bound = λ k lt. omega (arith, ap nat_abs (zero_left k (omega (arith, lt, c.requires.piece))));
      right_bound = λ k lt. omega (arith, ap nat_abs (zero_right k (omega (arith, lt, c.requires.piece))));
    }

pub overflow_mul-from : goal.overflow_mul-from
overflow_mul-from c =
    let rows : (c.loop-t.t + 1) * c.args.len ≤ length c.args.gains.now * c.args.len =
    mul-le-mul_right c.args.len (omega (arith, c.loop-t-test.true)) in
    omega (arith, rows, c.requires.stretches)

pub overflow_add-from : goal.overflow_add-from
overflow_add-from c =
    let rows : (c.loop-t.t + 1) * c.args.len ≤ length c.args.gains.now * c.args.len =
    mul-le-mul_right c.args.len (omega (arith, c.loop-t-test.true)) in
    omega (arith, rows, c.requires.stretches, c.requires.within)

pub loop-t-preserved : goal.loop-t-preserved
loop-t-preserved c =
    let from : ℕ = c.loop-t.t * c.args.len + c.args.at in
    let n : ℕ = length c.args.out.now in
    let rows : (c.loop-t.t + 1) * c.args.len ≤ length c.args.gains.now * c.args.len =
    mul-le-mul_right c.args.len (omega (arith, c.loop-t-test.true)) in
    let fits : from + n ≤ length c.args.stretches.now = omega (arith, rows, c.requires.stretches, c.requires.within) in
    let gain : ℕ = get_or c.args.gains.now c.loop-t.t 0 in
    record {
      left = λ k lt.
          left_more c.args.len c.loop-t.t (c.args.at + k) (c.loop-t.t * c.args.len + (c.args.at + k))
          c.args.stretches.now c.args.gains.now c.args.sides.now (pos 0) Both _ _ _ _ c.loop-t-test.true
          c.requires.sides (omega (arith, lt, c.requires.within)) refl c.requires.stretches
          (weighs_part gain from n k (c.loop-t.t * c.args.len + (c.args.at + k)) c.args.stretches.now lt (omega arith))
          (c.loop-t.invariant.left k lt) (c.add.ensures.left k (within_part from n k c.args.stretches.now lt fits));
      right = λ k lt.
          right_more c.args.len c.loop-t.t (c.args.at + k) (c.loop-t.t * c.args.len + (c.args.at + k))
          c.args.stretches.now c.args.gains.now c.args.sides.now (pos 0) Both _ _ _ _ c.loop-t-test.true
          c.requires.sides (omega (arith, lt, c.requires.within)) refl c.requires.stretches
          (weighs_part gain from n k (c.loop-t.t * c.args.len + (c.args.at + k)) c.args.stretches.now lt (omega arith))
          (c.loop-t.invariant.right k lt) (c.add.ensures.right k (within_part from n k c.args.stretches.now lt fits));
      both_bound = λ k lt.
          bound_more c.loop-t.t _ _ (c.add.ensures.both_bound k (within_part from n k c.args.stretches.now lt fits))
          (c.loop-t.invariant.both_bound k lt);
      left_bound = λ k lt.
          bound_more c.loop-t.t _ _ (c.add.ensures.left_bound k (within_part from n k c.args.stretches.now lt fits))
          (c.loop-t.invariant.left_bound k lt);
      right_bound = λ k lt.
          bound_more c.loop-t.t _ _ (c.add.ensures.right_bound k (within_part from n k c.args.stretches.now lt fits))
          (c.loop-t.invariant.right_bound k lt);
    }

pub returns : goal.returns
returns c =
    let P : Project = laid c.args.len c.args.stretches.now c.args.gains.now c.args.sides.now in
    let sums = c.loop-t.sums in
    c.limit.ensures ∙ same_piece (frame_in sums.both sums.left sums.right) (frame_at P) c.args.at
    (length c.args.out.now) (λ k lt.
    frame_is (sum_in sums.both k +ℤ sum_in sums.left k) (sum_in sums.both k +ℤ sum_in sums.right k)
    (left_sum P (c.args.at + k)) (right_sum P (c.args.at + k))
    (left_end c.args.len c.loop-t.t (c.args.at + k) c.args.stretches.now c.args.gains.now c.args.sides.now _ _
    (omega arith) (c.loop-t.invariant.left k lt))
    (right_end c.args.len c.loop-t.t (c.args.at + k) c.args.stretches.now c.args.gains.now c.args.sides.now _ _
    (omega arith) (c.loop-t.invariant.right k lt)))
