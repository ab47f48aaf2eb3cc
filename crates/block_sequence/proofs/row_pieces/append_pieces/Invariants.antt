-- What the loop of `append_pieces` keeps.
use Rattle.std.proofs.Common.{◌≡◌, ◌++◌, drop}
use Rattle.pcm_base.specs.{Blocks.block_samples, Pieces.Sources, Pieces.all_samples, Pieces.AllValid}
use Rattle.block_sequence.specs.Rows.{flat, from_to}
use Rattle.block_sequence.proofs.row_pieces.append_pieces.Given as goal

abbrev pub invariant-loop-row : goal.invariant-loop-row
invariant-loop-row l = record {
  valid : AllValid l.out.items;
  samples : (src : Sources) → all_samples src l.out.items
      ++ from_to l.skip l.end (block_samples src (flat (drop l.row-index l.rows)))
      ≡ all_samples src l.fn.out.items ++ from_to l.from l.to (block_samples src (flat l.rows));
}
