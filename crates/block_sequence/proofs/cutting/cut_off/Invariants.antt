-- What the loop of `cut_off` keeps.
use Rattle.std.proofs.Common.{◌≡◌, ℕ, List, ◌+◌, ◌-◌, ◌≤◌, ◌++◌, length, drop}
use Rattle.pcm_base.specs.Pieces.{Sources, all_samples, total, AllValid, AllFit}
use Rattle.pcm_base.specs.declared.block.BlockRef.{BlockRef}
use Rattle.block_sequence.specs.{Origins.AllFrom, Places.samples_from, Places.total_from}
use Rattle.block_sequence.proofs.cutting.cut_off.Given as goal

abbrev pub invariant-loop-left : goal.invariant-loop-left
invariant-loop-left l = record {
  valid : AllValid l.out.items;
  fit : (m : ℕ) → AllFit m l.pieces → AllFit m l.out.items;
  origin : (blocks : List BlockRef) (count : ℕ) → AllFrom blocks count l.pieces → AllFrom blocks count l.out.items;
  taken : total l.out.items + l.left ≡ l.n;
  within : l.skip + l.left ≤ total (drop l.at l.pieces);
  rest : total_from l.pieces l.at l.skip + total l.out.items ≡ total_from l.pieces l.fn.place.at l.fn.place.skip;
  samples : (src : Sources) → all_samples src l.out.items ++ samples_from src l.pieces l.at l.skip
      ≡ samples_from src l.pieces l.fn.place.at l.fn.place.skip;
}

abbrev pub decreases-loop-left : goal.decreases-loop-left
decreases-loop-left l = l.left + (length l.pieces - l.at)
