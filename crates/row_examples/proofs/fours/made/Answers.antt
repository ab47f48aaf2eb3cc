-- Blocks that passed the test are half full, and few.
use Rattle.std.proofs.Common.{length, subst, ap, arith, List}
use Rattle.pcm_base.specs.declared.block.BlockRef.{BlockRef}
use Rattle.row_examples.specs.Fours.{AreFours}
use Rattle.row_examples.proofs.HalfFours.{half_full, none_empty, few_fours}
use Rattle.row_examples.proofs.fours.made.Goals as goal

pub new-requires-clause-full : goal.new-requires-clause-full
new-requires-clause-full c =
    let are = c.is_fit.ensures.fours c.if-not-is_fit.false in
    half_full c.args.blocks.items (subst AreFours c.as_slice.ensures.value are)

pub new-requires-clause-none_empty : goal.new-requires-clause-none_empty
new-requires-clause-none_empty c =
    let are = c.is_fit.ensures.fours c.if-not-is_fit.false in
    none_empty c.args.blocks.items (subst AreFours c.as_slice.ensures.value are)

pub new-requires-clause-few : goal.new-requires-clause-few
new-requires-clause-few c =
    let is = c.if-not-is_fit.false in
    let few = c.is_fit.ensures.few is in
    few_fours c.args.blocks.items (subst AreFours c.as_slice.ensures.value (c.is_fit.ensures.fours is))
    (omega (arith, few, ap (λ (bs : List BlockRef). length bs) c.as_slice.ensures.value))
