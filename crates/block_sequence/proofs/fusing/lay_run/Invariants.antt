-- What the loop of `lay_run` keeps.
use Rattle.std.proofs.Common.{◌≡◌, ℕ, List, ◌≤◌, ◌++◌, drop}
use Rattle.pcm_base.specs.{Pieces.Sources, Pieces.all_samples, Pieces.total, declared.block.BlockRef.BlockRef}
use Rattle.block_sequence.specs.{Fuse.added, Origins.AllFrom, Origins.AllLaidFrom, Places.samples_from}
use Rattle.block_sequence.specs.{Places.total_from, Laid.parts, Laid.all_laid_samples, Laid.AllMade}
use Rattle.block_sequence.proofs.Sizes.{made}
use Rattle.block_sequence.specs.Fuse as layout
use Rattle.block_sequence.specs.Laying as laying
use Rattle.block_sequence.proofs.fusing.lay_run.Given as goal

abbrev pub invariant-loop-k : goal.invariant-loop-k
invariant-loop-k l = record {
  new_blocks : AllMade l.m l.out.items;
  sizes : parts l.out.items ++ made (drop l.k (layout.block_sizes l.m l.run)) ≡ parts l.fn.out.items
      ++ laying.run_parts l.m l.run;
  samples : (src : Sources) → all_laid_samples src l.out.items ++ samples_from src l.pieces l.place.at l.place.skip
      ≡ all_laid_samples src l.fn.out.items ++ all_samples src l.pieces;
  origin : (blocks : List BlockRef) (count : ℕ) → AllFrom blocks count l.pieces
      → AllLaidFrom blocks count l.fn.out.items → AllLaidFrom blocks count l.out.items;
  within : l.place.skip ≤ total (drop l.place.at l.pieces);
  left : total_from l.pieces l.place.at l.place.skip ≡ added (drop l.k (layout.block_sizes l.m l.run));
}
