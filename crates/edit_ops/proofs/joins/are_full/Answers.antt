-- One block alone is full where it is tested.
use Rattle.edit_ops.proofs.Common.{arith}
use Rattle.edit_ops.proofs.WindowBlocks.{all_full}
use Rattle.edit_ops.proofs.joins.are_full.Goals.{else-count-eq1-via-then-count-eq1+else-size-block_size}
use Rattle.edit_ops.proofs.joins.are_full.Goals.{else-count-eq1-via-else-count-eq1}
use Rattle.edit_ops.proofs.joins.are_full.Goals as goal

pub returns : goal.returns
returns c = λ t bs l s h. all_full c.args.block_size bs (λ e. elim c.else-count-eq1.branch [
  | else-count-eq1-via-then-count-eq1+else-size-block_size w ↦ omega (arith, w.if-size-block_size.false, s)
  | else-count-eq1-via-else-count-eq1 w ↦ omega (arith, w.if-count-eq1.false, l, e)
]) h
