-- The frames so far are those of the mix.
use Rattle.mixdown.proofs.Common.{◌≡◌, ◌≤◌, ◌-◌, map, take, range_with_len, frame_at, laid}
use Rattle.mixdown.proofs.mix.mix_pieces.Given as goal

abbrev pub invariant-pieces : goal.invariant-pieces
invariant-pieces l = record {
  within : l.done ≤ l.count;
  frames : take l.done l.out
      ≡ map (frame_at (laid l.len l.stretches l.gains l.sides)) (range_with_len l.at l.done);
}

abbrev pub decreases-pieces : goal.decreases-pieces
decreases-pieces l = l.count - l.done
