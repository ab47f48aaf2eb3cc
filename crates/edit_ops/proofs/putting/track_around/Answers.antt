-- The clips after the window follow.
use Rattle.edit_ops.proofs.Common.{◌≡◌, ℕ, ◌+◌, ◌++◌, List, sym, ap, subst, ◌∙◌, append_assoc, arith, AllHalfFull}
use Rattle.edit_ops.proofs.Common.{Clip}
use Rattle.std.proofs.Common.{IfSome, Option}
use Rattle.clip_track.specs.Clips.{IsLayout}
use Rattle.edit_ops.specs.Joins.{clip_of, joined_clips, moved}
use Rattle.edit_ops.specs.Windows.{IsJoined, front_clip, track_with, window_blocks}
use Rattle.edit_ops.specs.declared.joins.Joining.{Joining}
use Rattle.edit_ops.specs.declared.windows.Window.{Window}
use Rattle.edit_ops.proofs.TouchingClips.{half_full_append, half_full_last}
use Rattle.edit_ops.proofs.WindowBlocks.{fits_rest, half_full_parts, moved_half_full, starts_fit}
use Rattle.edit_ops.proofs.WindowLayouts.{additions, back_few, layout_around, middle_few}
use Rattle.edit_ops.proofs.putting.track_around.Goals as goal

pub join_around-requires-clause-few : goal.join_around-requires-clause-few
join_around-requires-clause-few c =
    back_few c.args.planner.block_size c.args.t.now c.args.window c.args.old c.args.new c.requires.window c.requires.old
    c.requires.few c.requires.far

pub overflow_add-window : goal.overflow_add-window
overflow_add-window c = omega (
  arith,
  middle_few c.args.planner.block_size c.args.t.now c.args.window c.requires.window,
  c.requires.old,
  c.requires.far,
)

pub copy_clips-requires : goal.copy_clips-requires
copy_clips-requires c =
    let w = c.args.window in
    let new = c.args.new in
    let small = c.args.small.now in
    let P : Option Joining → Type 0 =
    λ o. IfSome o (IsJoined c.args.planner.block_size w new small) in
    let is : IsJoined c.args.planner.block_size w new small c.in-Some.joining =
    subst P c.in-Some.is c.in_ok-joining.ensures in
    let joined = joined_clips (front_clip w) (additions w new small) in
    let after = moved (w.from + c.args.old) (w.from + new) w.after.now in
    let layout = layout_around c.args.planner.block_size c.args.t.now w c.args.old new small c.requires.window
    c.requires.old is.apart c.requires.within c.requires.few c.requires.far in
    fits_rest joined after (fits_rest w.before.now (joined ++ after)
    (starts_fit 0 (track_with w c.args.old new small) layout.apart layout.few))

all_clips : (w : Window) (old new : ℕ) (small all out : List Clip)
    → all ≡ w.before.now ++ joined_clips (front_clip w) (additions w new small)
    → out ≡ all ++ moved (w.from + old) (w.from + new) w.after.now → out ≡ track_with w old new small
all_clips w old new small all out e f =
    let after = moved (w.from + old) (w.from + new) w.after.now in
    f ∙ ap (λ (cs : List Clip). cs ++ after) e
    ∙ append_assoc w.before.now (joined_clips (front_clip w) (additions w new small)) after

pub from_clips-requires : goal.from_clips-requires
from_clips-requires c =
    let w = c.args.window in
    let new = c.args.new in
    let small = c.args.small.now in
    let P : Option Joining → Type 0 = λ o. IfSome o (IsJoined c.args.planner.block_size w new small) in
    let is : IsJoined c.args.planner.block_size w new small c.in-Some.joining =
    subst P c.in-Some.is c.in_ok-joining.ensures in
    let all = all_clips w c.args.old new small _ _ (c.in_ok-all.ensures ∙ is.clips) c.in_ok-copy_clips.ensures in
    subst IsLayout (sym all) (layout_around c.args.planner.block_size c.args.t.now w c.args.old new small
    c.requires.window c.requires.old is.apart c.requires.within c.requires.few c.requires.far)

pub returns : goal.returns
returns c =
    let m = c.args.planner.block_size in
    let w = c.args.window in
    let new = c.args.new in
    let small = c.args.small.now in
    let h = c.requires.window in
    let j = c.in-Some.joining in
    let P : Option Joining → Type 0 = λ o. IfSome o (IsJoined m w new small) in
    let is : IsJoined m w new small j = subst P c.in-Some.is c.in_ok-joining.ensures in
    let joined = joined_clips (front_clip w) (additions w new small) in
    let after = moved (w.from + c.args.old) (w.from + new) w.after.now in
    let all = c.in_ok-layout.ensures
    ∙ all_clips w c.args.old new small _ _ (c.in_ok-all.ensures ∙ is.clips) c.in_ok-copy_clips.ensures in
    let layout = layout_around m c.args.t.now w c.args.old new small h c.requires.old is.apart c.requires.within
    c.requires.few c.requires.far in
    let H = AllHalfFull m in
    let front = subst H is.clips
    (half_full_last m j.start j.clips.items j.blocks is.joining.clips is.joining.half_full) in
    let rest = half_full_parts m (clip_of w.start (window_blocks w)) w.after.now
    (half_full_parts m w.before.now _ (subst H h.clips c.requires.t)).1 in
    let half = half_full_append m (w.before.now ++ joined) after front
    (moved_half_full m (w.from + c.args.old) (w.from + new) w.after.now rest.1) in
    record {
      apart = is.apart;
      within = c.requires.within;
      clips = all;
      layout = subst IsLayout (sym all) layout;
      half_full = subst H (sym all) (subst H (append_assoc w.before.now joined after) half);
    }
