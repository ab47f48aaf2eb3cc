-- Each call leaves a studio.
use Rattle.core_examples.proofs.scripts.answer.Goals.{in-Piece, in-Pin, in-PinLen, in-Unpin}
use Rattle.core_examples.proofs.scripts.answer.Goals as goal

pub returns : goal.returns
returns g c = elim c.match-ask.branch [
  | in-Piece w ↦ rw w.studio-is w.record-told.ensures
  | in-Pin w ↦ rw w.studio-is w.pin-told.ensures
  | in-PinLen w ↦ rw w.studio-is w.pin_len-told.ensures
  | in-Unpin w ↦ rw w.studio-is w.unpin-told.ensures
]
