-- One column more.
use Rattle.std.proofs.Common.{None}
use Rattle.script_text.specs.Text.{column_text}
use Rattle.script_text.proofs.GatheringLemmas.{adds_one_more}
use Rattle.script_text.proofs.columns.put_columns.Goals as goal

pub loop-column-preserved : goal.loop-column-preserved
loop-column-preserved g c = record {
  bytes = adds_one_more column_text c.args.columns.now c.loop-column.column-index None _ _ _ _ _ _
      c.loop-column-test.true c.loop-column.invariant.bytes c.put_column.ensures.bytes;
  cause = λ before counted. c.put_column.ensures.cause before (c.loop-column.invariant.cause before counted);
}
