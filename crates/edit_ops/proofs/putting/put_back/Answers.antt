-- The blocks before the window and after it stay, and are counted.
use Rattle.edit_ops.proofs.Common.{List, Clip, subst}
use Rattle.std.proofs.Common.{IfSome, Option}
use Rattle.edit_ops.specs.Windows.{IsAround}
use Rattle.edit_ops.proofs.KeptBlocks.{keeps_window, window_room}
use Rattle.edit_ops.proofs.putting.put_back.Goals as goal

pub kept_around-requires-clause-few : goal.kept_around-requires-clause-few
kept_around-requires-clause-few c =
    window_room c.args.planner.block_size c.args.t.now c.args.window c.requires.window

pub returns-in-Some-clause-kept : goal.returns-in-Some-clause-kept
returns-in-Some-clause-kept c =
    let m = c.args.planner.block_size in
    let w = c.args.window in
    let old = c.args.old in
    let new = c.args.new in
    let small = c.args.plan.layout in
    let P : Option (List Clip) → Type 0 = λ o. IfSome o (IsAround m w old new small) in
    let around : IsAround m w old new small c.in-Some.layout = subst P c.in-Some.is c.in_ok-layout.ensures in
    keeps_window m c.args.t.now w old new small c.in-Some.layout c.kept_around.result c.requires.window around.clips
    c.kept_around.ensures
