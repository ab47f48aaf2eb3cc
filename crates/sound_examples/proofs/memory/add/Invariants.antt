-- The chunks so far were added.
use Rattle.std.proofs.Common.{◌≡◌, ◌+◌, ◌++◌, length, take}
use Rattle.edit_ports.specs.Answers.{numbered_pieces, samples_of}
use Rattle.sound_examples.specs.Memory.{pieces_of}
use Rattle.sound_examples.proofs.memory.add.Given as goal

abbrev pub invariant-loop-chunk : goal.invariant-loop-chunk
invariant-loop-chunk l = record {
  count : l.count ≡ l.chunk-index;
  many : length l.taken.items ≡ length l.fn.taken.items + l.chunk-index;
  added : pieces_of l.taken.items ≡ pieces_of l.fn.taken.items
      ++ numbered_pieces (length l.fn.taken.items) (samples_of (take l.chunk-index l.chunks));
}
