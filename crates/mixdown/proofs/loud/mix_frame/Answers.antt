-- One track more is summed.
use Rattle.mixdown.proofs.Common.{◌≡◌, ◌*◌, ◌≤◌, ◌+◌, ◌^◌, ℕ, ℤ, pos, length, refl, arith, ap, ap₂, ◌∙◌, to_z, of_z}
use Rattle.mixdown.proofs.Common.{get_or, w16, mul-le-mul_right, ints, Both, scaled, nat_abs, limited}
use Rattle.std.proofs.Common.{w64}
use Rattle.mixdown.proofs.LaidLaws.{left_start, left_more, left_end, right_start, right_more, right_end}
use Rattle.mixdown.proofs.loud.mix_frame.Goals as goal

pub loop-t-init : goal.loop-t-init
loop-t-init c = record {
  left =
      left_start c.args.len c.args.at c.args.stretches.now c.args.gains.now c.args.sides.now (pos 0) (pos 0) refl refl;
  right =
      right_start c.args.len c.args.at c.args.stretches.now c.args.gains.now c.args.sides.now (pos 0) (pos 0) refl refl;
  left_bound = omega arith;
  right_bound = omega arith;
}

pub overflow_mul-t : goal.overflow_mul-t
overflow_mul-t c =
    let rows : (c.loop-t.t + 1) * c.args.len ≤ length c.args.gains.now * c.args.len =
    mul-le-mul_right c.args.len (omega (arith, c.loop-t-test.true)) in
    omega (arith, rows, c.requires.stretches)

pub overflow_add-t : goal.overflow_add-t
overflow_add-t c =
    let rows : (c.loop-t.t + 1) * c.args.len ≤ length c.args.gains.now * c.args.len =
    mul-le-mul_right c.args.len (omega (arith, c.loop-t-test.true)) in
    omega (arith, rows, c.requires.stretches, c.requires.within)

grown : (a b s : ℤ) (t : ℕ) → a ≡ b → nat_abs b ≤ nat_abs s + 2 ^ 32 → nat_abs s ≤ t * 2 ^ 32
    → nat_abs a ≤ (t + 1) * 2 ^ 32
grown a b s t is more before = omega (arith, ints, ap nat_abs is, more, before)

pub loop-t-preserved : goal.loop-t-preserved
loop-t-preserved c =
    let w : ℤ = c.weigh-weight.result in
    let l : ℤ = c.add_left-left.result in
    let r : ℤ = c.add_right-right.result in
    let g : ℕ = get_or c.args.gains.now c.loop-t.t 0 in
    let s : ℤ = get_or c.args.stretches.now (c.loop-t.t * c.args.len + c.args.at) (pos 0) in
    let sample : to_z w16 (of_z w16 s) ≡ s = omega (arith, ints) in
    let weight : to_z w64 (of_z w64 w) ≡ scaled g s =
    omega (arith, ints, c.weigh-weight.ensures.bound) ∙ c.weigh-weight.ensures.value ∙ ap (scaled g) sample in
    let left : to_z w64 (of_z w64 l) ≡ l =
    omega (arith, ints, c.add_left-left.ensures.bound, c.loop-t.invariant.left_bound, c.requires.few) in
    let right : to_z w64 (of_z w64 r) ≡ r =
    omega (arith, ints, c.add_right-right.ensures.bound, c.loop-t.invariant.right_bound, c.requires.few) in
    record {
      left =
          left_more c.args.len c.loop-t.t c.args.at (c.loop-t.t * c.args.len + c.args.at) c.args.stretches.now
          c.args.gains.now c.args.sides.now (pos 0) Both _ (to_z w64 (of_z w64 l)) (to_z w64 (of_z w64 w)) _
          c.loop-t-test.true c.requires.sides c.requires.within refl c.requires.stretches
          weight c.loop-t.invariant.left (left ∙ c.add_left-left.ensures.value);
      right =
          right_more c.args.len c.loop-t.t c.args.at (c.loop-t.t * c.args.len + c.args.at) c.args.stretches.now
          c.args.gains.now c.args.sides.now (pos 0) Both _ (to_z w64 (of_z w64 r)) (to_z w64 (of_z w64 w)) _
          c.loop-t-test.true c.requires.sides c.requires.within refl c.requires.stretches
          weight c.loop-t.invariant.right (right ∙ c.add_right-right.ensures.value);
      left_bound =
          grown (to_z w64 (of_z w64 l)) l (to_z w64 c.loop-t.left-bits) c.loop-t.t left c.add_left-left.ensures.bound
          c.loop-t.invariant.left_bound;
      right_bound =
          grown (to_z w64 (of_z w64 r)) r (to_z w64 c.loop-t.right-bits) c.loop-t.t right c.add_right-right.ensures.bound
          c.loop-t.invariant.right_bound;
    }

pub returns : goal.returns
returns c =
    c.limited_wide.ensures
    ∙ ap₂ limited
    (left_end c.args.len c.loop-t.t c.args.at c.args.stretches.now c.args.gains.now c.args.sides.now _ _ (omega arith)
    c.loop-t.invariant.left)
    (right_end c.args.len c.loop-t.t c.args.at c.args.stretches.now c.args.gains.now c.args.sides.now _ _ (omega arith)
    c.loop-t.invariant.right)
