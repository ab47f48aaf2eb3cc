-- The goals of `lay_equal` that the search leaves open.
use Rattle.std.proofs.Common.{◌++◌, List, ap, sym, ◌∙◌, arith, append_assoc}
use Rattle.pcm_base.specs.{declared.block.BlockRef.BlockRef, Blocks.blocks_len}
use Rattle.block_sequence.specs.Rows.{flat}
use Rattle.block_sequence.proofs.FlatRows.{blocks_len-append, flat_push}
use Rattle.block_sequence.proofs.row_lists.lay_equal.Goals as goal

pub new-requires-clause-few : goal.new-requires-clause-few
new-requires-clause-few c =
    let e = ap blocks_len c.split_at.ensures.by_index.0
    ∙ blocks_len-append c.split_at.result.0.now c.split_at.result.1.now in
    rw c.in_ok-row.ensures.items (omega (arith, e, c.loop-rest.invariant.few))

pub loop-rest-preserved : goal.loop-rest-preserved
loop-rest-preserved c =
    let out = c.loop-rest.out.items in
    let row = c.in_ok-row-2.row in
    let more = c.split_at.result.1.now in
    let e = ap blocks_len c.split_at.ensures.by_index.0 ∙ blocks_len-append c.split_at.result.0.now more in
    record {
      all = ap (λ (rs : List (List BlockRef)). flat rs ++ more) c.in_ok-push.ensures.items
          ∙ ap (λ (bs : List BlockRef). bs ++ more) (flat_push out row)
          ∙ append_assoc (flat out) row more
          ∙ ap (λ (bs : List BlockRef). flat out ++ (bs ++ more)) (c.in_ok-row-2.ensures ∙ c.in_ok-row.ensures.items)
          ∙ ap (λ (bs : List BlockRef). flat out ++ bs) (sym c.split_at.ensures.by_index.0)
          ∙ c.loop-rest.invariant.all;
      few = omega (arith, e, c.loop-rest.invariant.few);
    }
