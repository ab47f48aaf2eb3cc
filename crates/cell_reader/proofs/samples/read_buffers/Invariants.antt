-- The cells so far are the samples of the file, and nothing of the disk has changed.
use Rattle.cell_reader.proofs.Common.{BlockFault, HasSamples, ◌≡◌, ◌≤◌, ◌+◌, ◌*◌, ◌-◌, take, map, length, [], ◌∷◌, Ok}
use Rattle.cell_reader.proofs.Common.{IsTrue, bytes_of, Sample, samples_in, Hits, Reads}
use Rattle.cell_reader.proofs.samples.read_buffers.Given as goal

abbrev pub invariant-buffers : goal.invariant-buffers
invariant-buffers g l = record {
  within : l.done ≤ length l.out;
  reads : Reads (l.block ∷ []) l.fn.reader l.reader (Ok (tt {0}));
  hit : Hits {E = BlockFault} (HasSamples l.fn.reader.cache l.block l.from (length l.initial.out)) l.fn.reader l.reader
      (Ok (tt {0}));
  stored : IsTrue (g.S.Store.tells l.fn.reader.store)
      → take l.done l.out
      ≡ map Sample (samples_in (bytes_of (g.S.Store.reads l.fn.reader.store l.block.id)) (16 + 2 * l.from) l.done);
}

abbrev pub decreases-buffers : goal.decreases-buffers
decreases-buffers g l = length l.initial.out - l.done
