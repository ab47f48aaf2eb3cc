-- The first of the others comes in a splice at the end, and the rest is shared.
use Rattle.std.proofs.Common.{◌≡◌, ◌-◌, ◌<◌, ◌++◌, List, length, take, drop, sym, ap, ◌∙◌, arith, rules}
use Rattle.std.proofs.Common.{length-drop, take_all}
use Rattle.pcm_base.specs.{declared.block.BlockRef.BlockRef, Blocks.blocks_len}
use Rattle.block_sequence.specs.Rows.{flat, spliced}
use Rattle.block_sequence.proofs.{Appended.ended, FlatRows.blocks_len-append, FlatRows.flat-append, FlatRows.flat_next}
use Rattle.block_sequence.proofs.row_splices.ended_rows.Goals as goal

pub spliced_rows-requires-2-clause-few : goal.spliced_rows-requires-2-clause-few
spliced_rows-requires-2-clause-few c =
    let others = c.args.others.now in
    let first = c.as_slice.result.now in
    let rest = flat (drop 1 others) in
    let some : 0 < length others = search rules in
    let d : flat others ≡ first ++ rest = flat_next others 0 c.index-others-0.result some
    ∙ ap (λ (r : List BlockRef). r ++ rest) (sym (c.as_slice.ensures.value ∙ c.index-others-0.is)) in
    let front = spliced c.args.kept c.count_blocks-count.result first (flat c.args.rows.now) in
    let all = ended c.args.kept c.count_blocks-count.result (flat c.args.rows.now) first rest c.count_blocks-count.ensures
    ∙ ap (λ (bs : List BlockRef). take c.args.kept (flat c.args.rows.now) ++ bs) (sym d) in
    omega (arith, blocks_len-append front rest, ap blocks_len all, c.requires.few)

pub returns : goal.returns
returns c =
    let others = c.args.others.now in
    let first = c.as_slice.result.now in
    let rest = flat (drop 1 others) in
    let some : 0 < length others = search rules in
    let d : flat others ≡ first ++ rest = flat_next others 0 c.index-others-0.result some
    ∙ ap (λ (r : List BlockRef). r ++ rest) (sym (c.as_slice.ensures.value ∙ c.index-others-0.is)) in
    let all = ended c.args.kept c.count_blocks-count.result (flat c.args.rows.now) first rest c.count_blocks-count.ensures
    ∙ ap (λ (bs : List BlockRef). take c.args.kept (flat c.args.rows.now) ++ bs) (sym d) in
    let whole = take_all (length others - 1) (drop 1 others) (omega (arith, length-drop 1 others)) in
    ap flat c.in_ok-share_rows.ensures
    ∙ ap (λ (rs : List (List BlockRef)). flat (c.in_ok-out.out.items ++ rs)) whole
    ∙ flat-append c.in_ok-out.out.items (drop 1 others)
    ∙ ap (λ (bs : List BlockRef). bs ++ rest) c.in_ok-out.ensures
    ∙ all
