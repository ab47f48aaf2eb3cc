-- The frames so far are those of the mix, and the reader stands after them.
use Rattle.mix_reader.proofs.Common.{◌≡◌, ◌≤◌, ◌+◌, ◌-◌, length, take, map, Ok, IsTrue, counted_from, frame_at, meant}
use Rattle.mix_reader.proofs.Common.{point_blocks, SameCache, Reads, stored_of, HasHeard}
use Rattle.mix_reader.specs.{Readers.IsReader}
use Rattle.mix_reader.proofs.frames.mix_stretches.Given as goal

abbrev pub invariant-stretches : goal.invariant-stretches
invariant-stretches g l = record {
  within : l.done ≤ length l.fn.out;
  reader : IsReader l.mix;
  point : l.mix.point.now ≡ l.fn.mix.point.now;
  place : l.mix.at ≡ l.fn.mix.at + l.done;
  reads : Reads (point_blocks l.fn.mix.point.now) l.fn.reader l.reader (Ok (tt {0}));
  hit : HasHeard l.fn.reader.cache l.fn.mix.at (l.fn.mix.at + length l.fn.out) l.fn.mix.point.now
      → (l.reader.store ≡ l.fn.reader.store) × SameCache l.fn.reader.cache l.reader.cache;
  stored : IsTrue (g.S.Store.tells l.fn.reader.store)
      → take l.done l.out ≡ map (frame_at (meant (stored_of (g.S.Store.reads l.fn.reader.store)) l.fn.mix.point.now))
      (counted_from l.fn.mix.at l.done);
}

abbrev pub decreases-stretches : goal.decreases-stretches
decreases-stretches g l = length l.initial.out - l.done
