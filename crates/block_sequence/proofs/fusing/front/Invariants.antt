-- What the loop of `front` keeps.
use Rattle.std.proofs.Common.{◌≡◌, ◌+◌, ◌-◌, ◌≤◌, length, drop}
use Rattle.pcm_base.specs.Pieces.{total}
use Rattle.block_sequence.specs.Fuse as layout
use Rattle.block_sequence.proofs.fusing.front.Given as goal

abbrev pub invariant-loop-i : goal.invariant-loop-i
invariant-loop-i l = record {
  within : l.i ≤ length l.pieces;
  front : l.sum + layout.front l.m (drop l.i l.pieces) ≡ layout.front l.m (drop l.at l.pieces);
  few : l.sum + total (drop l.i l.pieces) ≤ total l.pieces;
}

abbrev pub decreases-loop-i : goal.decreases-loop-i
decreases-loop-i l = length l.pieces - l.i
