-- What the loop of `append_row` keeps.
use Rattle.std.proofs.Common.{◌≡◌, ◌++◌, drop}
use Rattle.pcm_base.specs.{Blocks.block_samples, Pieces.Sources, Pieces.all_samples, Pieces.AllValid}
use Rattle.block_sequence.specs.Rows.{from_to}
use Rattle.block_sequence.proofs.row_pieces.append_row.Given as goal

abbrev pub invariant-loop-block : goal.invariant-loop-block
invariant-loop-block l = record {
  valid : AllValid l.out.items;
  samples : (src : Sources) → all_samples src l.out.items
      ++ from_to l.skip l.end (block_samples src (drop l.block-index l.row))
      ≡ all_samples src l.fn.out.items ++ from_to l.from l.to (block_samples src l.row);
}
