-- The goals of `lay_rows` that the search leaves open.
use Rattle.std.proofs.Common.{◌++◌, List, ap, ◌∙◌}
use Rattle.pcm_base.specs.declared.block.BlockRef.{BlockRef}
use Rattle.block_sequence.specs.Rows.{flat}
use Rattle.block_sequence.proofs.FlatRows.{flat_push}
use Rattle.block_sequence.proofs.row_lists.lay_rows.Goals as goal

pub returns : goal.returns
returns c =
    let out = c.args.out.now.items in
    ap flat c.in_ok-push.ensures.items
    ∙ flat_push out c.in_ok-row.row
    ∙ ap (λ (bs : List BlockRef). flat out ++ bs) c.in_ok-row.ensures
