-- The blocks of one row more are counted.
use Rattle.record_body.proofs.Common.{◌≡◌, ℕ, ◌+◌, ◌-◌, ◌<◌, ◌++◌, List, [], length, get_or, min, take, drop, sym, ap, ◌∙◌, arith, BlockRef, blocks_len}
use Rattle.block_sequence.{specs.Rows.flat, proofs.FlatRows.flat_next, proofs.FlatRows.flat_end}
use Rattle.record_body.proofs.{Parts.take_over, Tails.len_append, Tails.take_len}
use Rattle.record_body.proofs.old_blocks.len_to.Goals as goal

-- those that are left are some of a row, and some after it
pub next : (rs : List (List BlockRef)) (i left n : ℕ) (x y : List BlockRef) → i < length rs → x ≡ y → y ≡ get_or rs i y
    → n ≡ min left (length x)
    → blocks_len (take left (flat (drop i rs)))
    ≡ blocks_len (take n x) + blocks_len (take (left - n) (flat (drop (i + 1) rs)))
next rs i left n x y lt same is e =
    let rest = flat (drop (i + 1) rs) in
    let d : flat (drop i rs) ≡ x ++ rest =
    flat_next rs i y lt ∙ ap (λ (ys : List BlockRef). ys ++ rest) (sym (same ∙ is)) in
    ap (λ (ys : List BlockRef). blocks_len (take left ys)) d ∙ ap blocks_len (take_over left n x rest e)
    ∙ len_append (take n x) (take (left - n) rest)

pub total-len-requires : goal.total-len-requires
total-len-requires c =
    let rs = c.args.rows.now in
    let e = next rs c.loop-row.row-index c.loop-row.left c.min-here.result c.as_slice-blocks.result.now c.row-item.result
    c.loop-row-test.true c.as_slice-blocks.ensures.value c.row-item.is c.min-here.ensures in
    omega (arith, e, c.loop-row.invariant, take_len c.args.count (flat rs), c.requires)

pub overflow_add-len : goal.overflow_add-len
overflow_add-len c =
    let rs = c.args.rows.now in
    let e = next rs c.loop-row.row-index c.loop-row.left c.min-here.result c.as_slice-blocks.result.now c.row-item.result
    c.loop-row-test.true c.as_slice-blocks.ensures.value c.row-item.is c.min-here.ensures in
    omega (arith, e, c.total-len.ensures, c.loop-row.invariant, take_len c.args.count (flat rs), c.requires)

pub loop-row-preserved : goal.loop-row-preserved
loop-row-preserved c =
    let e = next c.args.rows.now c.loop-row.row-index c.loop-row.left c.min-here.result c.as_slice-blocks.result.now
    c.row-item.result c.loop-row-test.true c.as_slice-blocks.ensures.value c.row-item.is c.min-here.ensures in
    omega (arith, e, c.total-len.ensures, c.loop-row.invariant)

pub returns : goal.returns
returns c =
    let left = flat (drop c.loop-row.row-index c.args.rows.now) in
    let none : left ≡ [] = flat_end c.args.rows.now c.loop-row.row-index (omega arith) in
    let rest = take_len c.loop-row.left left in
    omega (arith, rest, ap blocks_len none, c.loop-row.invariant)
