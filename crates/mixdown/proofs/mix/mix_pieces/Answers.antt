-- One piece more is mixed.
use Rattle.mixdown.proofs.Common.{arith, frame_at, laid}
use Rattle.std.proofs.{lemmas.Grind.common_steps}
use Rattle.mixdown.proofs.PieceLaws.{piece_more}
use Rattle.mixdown.proofs.mix.mix_pieces.Goals as goal

pub pieces-preserved : goal.pieces-preserved
pieces-preserved c = record {
  within = grind (arith, common_steps);
  frames = piece_more (frame_at (laid c.args.len c.args.stretches.now c.args.gains.now c.args.sides.now))
      c.args.at c.pieces.done c.min.result _ _ c.pieces.out c.mix_piece.new.out
      (grind (arith, common_steps)) c.pieces.invariant.frames c.mix_piece.ensures (grind (arith, common_steps));
}
