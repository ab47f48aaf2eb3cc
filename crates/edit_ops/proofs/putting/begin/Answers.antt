-- The clips before the window are moved nowhere, and its blocks up to it are full.
use Rattle.edit_ops.proofs.Common.{◌≤◌, ◌++◌, List, Clip, sym, ap, ap₂, subst, ◌∙◌, arith, AllHalfFull, BlockRef, IsHalfFull}
use Rattle.pcm_base.specs.Blocks.{NoneEmpty, block_lens, blocks_len}
use Rattle.edit_ops.specs.Windows.{StartsFit, front_of}
use Rattle.edit_ops.proofs.WindowBlocks.{end_before_next, half_from_full, half_full_parts, moved_none, starts_fit}
use Rattle.edit_ops.proofs.WindowLayouts.{none_empty_parts}
use Rattle.edit_ops.proofs.putting.begin.Goals as goal

pub copy_clips-requires : goal.copy_clips-requires
copy_clips-requires c =
    let h = c.requires.window in
    let before = c.args.window.before.now in
    subst StartsFit (sym (moved_none before)) (starts_fit 0 before h.before
    (omega (arith, end_before_next 0 0 before (omega arith), h.apart, h.from, c.requires.few)))

pub append-requires-clause-within : goal.append-requires-clause-within
append-requires-clause-within c =
    let h = c.requires.window in
    omega (arith, h.rising, h.last, h.within)

pub append-requires-clause-full : goal.append-requires-clause-full
append-requires-clause-full c =
    let m = c.args.planner.block_size in
    let h = c.requires.window in
    rw c.empty.ensures (m, half_from_full m (front_of c.args.window) c.args.planner.some h.front)

pub append-requires-clause-none_empty : goal.append-requires-clause-none_empty
append-requires-clause-none_empty c =
    let m = c.args.planner.block_size in
    rw c.empty.ensures (none_empty_parts m c.args.t.now c.args.window c.requires.window).0

pub append-requires-clause-few : goal.append-requires-clause-few
append-requires-clause-few c =
    let few : blocks_len (front_of c.args.window) ≤ 4294967296 = omega (arith, c.requires.window.from, c.requires.few) in
    rw c.empty.ensures few

pub returns-clause-clips : goal.returns-clause-clips
returns-clause-clips c =
    c.in_ok-copy_clips.ensures
    ∙ ap₂ (λ (xs : List Clip) (ys : List Clip). xs ++ ys) c.new-clips.ensures.items (moved_none c.args.window.before.now)

pub returns-clause-blocks : goal.returns-clause-blocks
returns-clause-blocks c =
    c.in_ok-blocks.ensures ∙ ap (λ (xs : List BlockRef). xs ++ front_of c.args.window) c.empty.ensures

pub returns-clause-joining : goal.returns-clause-joining
returns-clause-joining c =
    let m = c.args.planner.block_size in
    let t = c.args.t.now in
    let w = c.args.window in
    let h = c.requires.window in
    let front = front_of w in
    let same = c.in_ok-blocks.ensures ∙ ap (λ (xs : List BlockRef). xs ++ front) c.empty.ensures in
    let clips = c.in_ok-copy_clips.ensures
    ∙ ap₂ (λ (xs : List Clip) (ys : List Clip). xs ++ ys) c.new-clips.ensures.items (moved_none w.before.now) in
    let H : List BlockRef → Type 0 = λ bs. IsHalfFull m (block_lens bs) in
    record {
      end = omega (arith, ap blocks_len same, h.from);
      few = c.requires.few;
      none_empty = subst NoneEmpty (sym same) (none_empty_parts m t w h).0;
      half_full = subst H (sym same) (half_from_full m front c.args.planner.some h.front);
      clips = subst (AllHalfFull m) (sym clips)
          (half_full_parts m w.before.now _ (subst (AllHalfFull m) h.clips c.requires.t)).0;
    }
