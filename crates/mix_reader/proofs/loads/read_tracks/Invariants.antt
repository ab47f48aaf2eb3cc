-- The stretches of the tracks after it are read.
use Rattle.mix_reader.proofs.Common.{◌≡◌, ◌≤◌, ◌+◌, ◌*◌, length, take, drop, Ok, IsTrue, unmuted, meant, point_blocks}
use Rattle.mix_reader.proofs.Common.{SameCache, Reads, stored_of, AreStretches, heard_count, HasHeard}
use Rattle.mix_reader.proofs.loads.read_tracks.Given as goal

abbrev pub invariant-rows : goal.invariant-rows
invariant-rows g l = record {
  within : l.i ≤ length l.point;
  place : l.end + heard_count (drop l.i l.point) * l.len ≡ heard_count l.point * l.len;
  reads : Reads (point_blocks l.point) l.fn.reader l.reader (Ok (tt {0}));
  hit : HasHeard l.fn.reader.cache l.from (l.from + l.len) l.point
      → (l.reader.store ≡ l.fn.reader.store) × SameCache l.fn.reader.cache l.reader.cache;
  before : take l.end l.samples ≡ take l.end l.fn.samples;
  stored : IsTrue (g.S.Store.tells l.fn.reader.store)
      → AreStretches l.from l.len (unmuted (meant (stored_of (g.S.Store.reads l.fn.reader.store)) (drop l.i l.point)))
      (drop l.end l.samples);
}

abbrev pub decreases-rows : goal.decreases-rows
decreases-rows g l = l.i
