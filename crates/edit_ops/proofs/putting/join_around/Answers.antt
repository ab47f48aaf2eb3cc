-- What is added to the clips before a window.
use Rattle.edit_ops.proofs.Common.{ℕ, ◌++◌, [], ◌∷◌, List, ap₂, subst, ◌∙◌, arith}
use Rattle.edit_ops.proofs.Common.{BlockRef, Clip}
use Rattle.std.proofs.Common.{IfSome, Option}
use Rattle.edit_ops.specs.Windows.{back_of, front_of}
use Rattle.edit_ops.specs.Joins.{Adds, joined_clips, moved}
use Rattle.edit_ops.specs.Windows.{IsJoined, back_clip}
use Rattle.edit_ops.specs.declared.joins.Joining.{Joining}
use Rattle.edit_ops.proofs.WindowBlocks.{half_from_full}
use Rattle.edit_ops.proofs.WindowLayouts.{none_empty_parts, window_len}
use Rattle.edit_ops.proofs.WindowPlans.{if_some}
use Rattle.edit_ops.proofs.putting.join_around.Goals as goal

pub add_clips-requires-clause-joining : goal.add_clips-requires-clause-joining
add_clips-requires-clause-joining c = c.in_ok-joining.ensures.joining

pub overflow_sub-back-2 : goal.overflow_sub-back-2
overflow_sub-back-2 c =
    let h = c.requires.window in
    omega (arith, window_len c.args.planner.block_size c.args.t.now c.args.window h, h.from)

pub overflow_sub-back-3 : goal.overflow_sub-back-3
overflow_sub-back-3 c =
    let h = c.requires.window in
    omega (arith, window_len c.args.planner.block_size c.args.t.now c.args.window h, h.from, c.requires.old)

pub add_part-requires-clause-part : goal.add_part-requires-clause-part
add_part-requires-clause-part c =
    let m = c.args.planner.block_size in
    let t = c.args.t.now in
    let w = c.args.window in
    let h = c.requires.window in
    let len = window_len m t w h in
    record {
      rising = h.last;
      within = h.within;
      size = omega (arith, len, h.from, c.requires.old);
      few = omega (arith, len, h.from, c.requires.old, c.requires.few);
      none_empty = (none_empty_parts m t w h).2;
      half_full = half_from_full m (back_of w) c.args.planner.some h.back;
    }

pub returns : goal.returns
returns c =
    let m = c.args.planner.block_size in
    let w = c.args.window in
    let new = c.args.new in
    let small = c.args.small.now in
    let back = back_clip w new in
    let clips = c.as_slice-clips.result.now in
    let same = c.as_slice-clips.ensures.value in
    let j = c.in_ok-joining.joining in
    let e = c.in_ok-joining.ensures in
    let P : Option Joining → Type 0 = λ o. IfSome o (Adds m j (moved 0 w.from clips)) in
    let adds : Adds m j (moved 0 w.from clips) c.in-Some.most = subst P c.in-Some.is c.in_ok-most.ensures in
    let all = adds.clips (back ∷ [])
    ∙ ap₂ (λ (cs : List Clip) (bs : List BlockRef). cs
    ++ joined_clips (record { start = j.start; blocks = bs }) (moved 0 w.from clips ++ back ∷ [])) e.clips e.blocks
    ∙ ap₂ (λ (n : ℕ) (cs : List Clip). w.before.now
    ++ joined_clips (record { start = n; blocks = front_of w }) (moved 0 w.from cs ++ back ∷ [])) e.start same in
    if_some (Adds m c.in-Some.most (back ∷ [])) (IsJoined m w new small) c.in_ok-add_part.field-0
    (λ n a. record {
      joining = a.joining;
      apart = c.as_slice-clips.ensures.apart.apart;
      clips = a.clips [] ∙ all;
    })
    c.in_ok-add_part.ensures
