-- What the loop of `without_empty` keeps.
use Rattle.std.proofs.Common.{◌≡◌, take, filter}
use Rattle.block_sequence.specs.Fuse as layout
use Rattle.block_sequence.proofs.fusing.without_empty.Given as goal

abbrev pub invariant-loop-piece : goal.invariant-loop-piece
invariant-loop-piece l = l.out.items ≡ filter layout.is_not_empty (take l.piece-index l.pieces)
