-- One clip more is searched.
use Rattle.editor_recovery.proofs.Common.{◌+◌, List, Option, refl, drop, sym, ap, ◌∙◌, All-from_recursion}
use Rattle.editor_recovery.proofs.Common.{recursion_from_All, BlockRef, Clip, layout_blocks, IsBlockRef}
use Rattle.editor_recovery.proofs.Common.{drop_some, get_or, slice_get-get_or, size_in, first_wrong}
use Rattle.block_sequence.specs.Rows.{flat}
use Rattle.editor_recovery.proofs.{Searched.clip_part, Searched.still_searched, Wrong.wrong_append}
use Rattle.editor_recovery.proofs.sizes.wrong_clips.Goals as goal

pub loop-i-init : goal.loop-i-init
loop-i-init c = (refl, c.requires.searched)

pub wrong_rows-found-requires-clause-blocks : goal.wrong_rows-found-requires-clause-blocks
wrong_rows-found-requires-clause-blocks c =
    let cs = c.args.clips.now in
    let other = c.index-clips-i.result in
    let clip = get_or cs c.loop-i.i other in
    let here = slice_get-get_or cs c.loop-i.i other c.loop-i-test.true in
    rw c.rows.ensures.value (All-from_recursion IsBlockRef clip.blocks
    (clip_part IsBlockRef cs c.loop-i.i clip here
    (recursion_from_All IsBlockRef (layout_blocks cs) c.requires.blocks)))

pub wrong_rows-found-requires-clause-searched : goal.wrong_rows-found-requires-clause-searched
wrong_rows-found-requires-clause-searched c =
    c.rows_at.ensures (size_in c.args.sizes.now) c.loop-i.found c.loop-i.invariant.1

pub loop-i-preserved : goal.loop-i-preserved
loop-i-preserved c =
    let cs = c.args.clips.now in
    let other = c.index-clips-i.result in
    let clip = get_or cs c.loop-i.i other in
    let sizes = size_in c.args.sizes.now in
    let found = c.loop-i.found in
    let rest = layout_blocks (drop (c.loop-i.i + 1) cs) in
    let here = slice_get-get_or cs c.loop-i.i other c.loop-i-test.true in (
      ap (λ (f : Option BlockRef). first_wrong sizes f rest) (c.wrong_rows-found.ensures
          ∙ ap (first_wrong sizes found) c.rows.ensures.value)
          ∙ sym (wrong_append sizes found clip.blocks rest)
          ∙ ap (λ (ds : List Clip). first_wrong sizes found (layout_blocks ds))
          (sym (drop_some cs c.loop-i.i clip here))
          ∙ c.loop-i.invariant.0,
      rw c.wrong_rows-found.ensures
          (still_searched sizes found (flat c.rows.result.now) (layout_blocks c.args.olds.now) c.loop-i.invariant.1),
    )
