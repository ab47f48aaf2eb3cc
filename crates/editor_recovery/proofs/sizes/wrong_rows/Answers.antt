-- One row more is searched.
use Rattle.editor_recovery.proofs.Common.{◌+◌, List, Option, refl, drop, sym, ap, ◌∙◌, All-from_recursion}
use Rattle.editor_recovery.proofs.Common.{recursion_from_All, BlockRef, IsBlockRef, drop_some, size_in, first_wrong}
use Rattle.std.proofs.lemmas.Option.{slice_get_read}
use Rattle.block_sequence.specs.Rows.{flat}
use Rattle.editor_recovery.proofs.{Searched.row_part, Searched.still_searched, Wrong.wrong_append}
use Rattle.editor_recovery.proofs.sizes.wrong_rows.Goals as goal

pub loop-i-init : goal.loop-i-init
loop-i-init c = (refl, c.requires.searched)

pub wrong_row-found-requires-clause-blocks : goal.wrong_row-found-requires-clause-blocks
wrong_row-found-requires-clause-blocks c =
    let rs = c.args.rows.now in
    let row : List BlockRef = c.index-rows-i.result in
    let here = slice_get_read rs _ c.loop-i.i row refl c.loop-i-test.true c.index-rows-i.is in
    rw c.as_slice.ensures.value (All-from_recursion IsBlockRef row (row_part IsBlockRef rs c.loop-i.i row here
    (recursion_from_All IsBlockRef (flat rs) c.requires.blocks)))

pub wrong_row-found-requires-clause-searched : goal.wrong_row-found-requires-clause-searched
wrong_row-found-requires-clause-searched c = c.loop-i.invariant.1

pub loop-i-preserved : goal.loop-i-preserved
loop-i-preserved c =
    let rs = c.args.rows.now in
    let row : List BlockRef = c.index-rows-i.result in
    let sizes = size_in c.args.sizes.now in
    let found = c.loop-i.found in
    let rest = flat (drop (c.loop-i.i + 1) rs) in
    let here = slice_get_read rs _ c.loop-i.i row refl c.loop-i-test.true c.index-rows-i.is in (
      ap (λ (f : Option BlockRef). first_wrong sizes f rest) (c.wrong_row-found.ensures
          ∙ ap (first_wrong sizes found) c.as_slice.ensures.value)
          ∙ sym (wrong_append sizes found row rest)
          ∙ ap (λ (ss : List (List BlockRef)). first_wrong sizes found (flat ss))
          (sym (drop_some rs c.loop-i.i row here))
          ∙ c.loop-i.invariant.0,
      rw c.wrong_row-found.ensures
          (still_searched sizes found c.as_slice.result.now (flat c.args.olds.now) c.loop-i.invariant.1),
    )
