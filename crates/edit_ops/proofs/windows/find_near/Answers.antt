-- The window's blocks are half full.
use Rattle.edit_ops.proofs.Common.{arith}
use Rattle.edit_ops.proofs.WindowLayouts.{middle_few, none_empty_parts}
use Rattle.edit_ops.proofs.windows.find_near.Goals as goal

pub window_layout-requires-clause-rising : goal.window_layout-requires-clause-rising
window_layout-requires-clause-rising c =
    (c.in-Some.ensures.window c.args.planner.block_size c.args.planner.some c.requires.half_full).rising

pub window_layout-requires-clause-within : goal.window_layout-requires-clause-within
window_layout-requires-clause-within c =
    let h = c.in-Some.ensures.window c.args.planner.block_size c.args.planner.some c.requires.half_full in
    omega (arith, h.last, h.within)

pub window_layout-requires-clause-none_empty : goal.window_layout-requires-clause-none_empty
window_layout-requires-clause-none_empty c =
    let m = c.args.planner.block_size in
    let h = c.in-Some.ensures.window m c.args.planner.some c.requires.half_full in
    (none_empty_parts m c.args.t.now c.in-Some.window h).1

pub window_layout-requires-clause-half_full : goal.window_layout-requires-clause-half_full
window_layout-requires-clause-half_full c =
    let m = c.args.planner.block_size in
    (m, (c.in-Some.ensures.window m c.args.planner.some c.requires.half_full).middle)

pub window_layout-requires-clause-few : goal.window_layout-requires-clause-few
window_layout-requires-clause-few c =
    let m = c.args.planner.block_size in
    let w = c.in-Some.window in
    let h = c.in-Some.ensures.window m c.args.planner.some c.requires.half_full in
    middle_few m c.args.t.now w h

pub returns : goal.returns
returns c = record {
  window = c.in-Some.ensures.window c.args.planner.block_size c.args.planner.some c.requires.half_full;
  small = c.in_ok-small.ensures;
  past = c.in-Some.ensures.past;
  within = omega (arith, c.if-to-window.false, c.len.ensures.value);
}
