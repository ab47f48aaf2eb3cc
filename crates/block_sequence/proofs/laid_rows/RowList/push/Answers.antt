-- The new row stands at the end.
use Rattle.std.proofs.Common.{◌++◌, List, ap, ◌∙◌, arith}
use Rattle.pcm_base.specs.{declared.block.BlockRef.BlockRef, Blocks.blocks_len}
use Rattle.block_sequence.specs.Rows.{flat}
use Rattle.block_sequence.proofs.FlatRows.{blocks_len-append, flat_push}
use Rattle.block_sequence.proofs.laid_rows.RowList.push.Goals as goal

pub invariant_of-self-2 : goal.invariant_of-self-2
invariant_of-self-2 c =
    let old = flat c.self.inside.rows.items in
    let row = c.in_ok-row.row in
    let added = ap flat c.in_ok-push.ensures.items ∙ flat_push c.self.inside.rows.items row in
    let sum = ap blocks_len added ∙ blocks_len-append old row in
    let len = ap blocks_len c.in_ok-row.ensures in
    let few = ap blocks_len c.self.view_is in
    record {
      same_len = omega (arith, sum, c.self.invariant.same_len, c.len-len.ensures);
      few = omega (arith, few, len, c.self.invariant.same_len, c.len-len.ensures, c.requires.few);
    }

pub returns : goal.returns
returns c =
    ap flat c.in_ok-push.ensures.items
    ∙ flat_push c.self.inside.rows.items c.in_ok-row.row
    ∙ ap (λ (bs : List BlockRef). flat c.self.inside.rows.items ++ bs) c.in_ok-row.ensures
    ∙ ap (λ (bs : List BlockRef). bs ++ c.args.blocks.items) c.self.view_is
