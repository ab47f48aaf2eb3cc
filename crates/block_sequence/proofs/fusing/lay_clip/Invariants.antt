-- What the loop of `lay_clip` keeps.
use Rattle.std.proofs.Common.{◌≡◌, ℕ, List, ◌+◌, ◌≤◌, ◌++◌, drop}
use Rattle.pcm_base.specs.{Pieces.Sources, Pieces.all_samples, Pieces.total, declared.block.BlockRef.BlockRef}
use Rattle.block_sequence.specs.{Origins.AllFrom, Origins.AllLaidFrom, Laid.parts, Laid.all_laid_samples, Laid.AllMade}
use Rattle.block_sequence.proofs.Clip.{laid_from}
use Rattle.block_sequence.specs.Laying as laying
use Rattle.block_sequence.proofs.fusing.lay_clip.Given as goal

abbrev pub invariant-loop-i : goal.invariant-loop-i
invariant-loop-i l = record {
  new_blocks : AllMade l.m l.out.items;
  origin : (blocks : List BlockRef) (count : ℕ) → AllFrom blocks count l.pieces → AllLaidFrom blocks count l.out.items;
  before : l.start ≤ l.i;
  open_run : total (drop l.start l.pieces) ≡ l.run + total (drop l.i l.pieces);
  sizes : parts l.out.items ++ laid_from l.first l.m l.run (drop l.i l.pieces) ≡ laying.laid_clip l.m l.pieces;
  samples : (src : Sources)
      → all_laid_samples src l.out.items ++ all_samples src (drop l.start l.pieces) ≡ all_samples src l.pieces;
}
