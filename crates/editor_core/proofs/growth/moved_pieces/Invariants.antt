-- The pieces so far.
use Rattle.editor_core.proofs.Common.{◌≡◌, map, take}
use Rattle.editor_imports.specs.Imports.{piece_behind}
use Rattle.editor_core.proofs.growth.moved_pieces.Given as goal

abbrev pub invariant-loop-piece : goal.invariant-loop-piece
invariant-loop-piece l = l.out.items ≡ map (piece_behind l.skip) (take l.piece-index l.pieces)
