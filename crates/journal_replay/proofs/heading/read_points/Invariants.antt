-- How far the points were read. Their layouts have numbers, for each of which the header has 9 bytes so far.
use Rattle.journal_replay.proofs.Common.{◌≡◌, ◌+◌, ◌*◌, ◌≤◌, length, NoFault, IsLater, reader_form, unnumbered_history}
use Rattle.journal_replay.proofs.Common.{IsNumbered}
use Rattle.disk_model.specs.Frames.{Kept as IsKept}
use Rattle.journal_replay.proofs.Pointed.{PointsSoFar}
use Rattle.journal_replay.proofs.heading.read_points.Given as goal

abbrev pub invariant-loop : goal.invariant-loop
invariant-loop g l = record {
  kept : IsKept g.S.Store l.fn.store l.store;
  no_fault : NoFault g.S.Store l.fn.store l.store;
  later : IsLater l.fn.reader l.reader;
  so_far : PointsSoFar g.S.Store l.store l.reader l.fn.m (reader_form l.fn.reader).header_size l.fn.reader.base
      (unnumbered_history l.numbered.history.history).points;
  count : length l.numbered.history.history.points ≡ l.counter;
  depth : l.numbered.history.history.depth ≡ l.fn.reader.depth;
  numbers : IsNumbered l.numbered.history.history l.numbered.next;
  few : 9 * l.numbered.next + 16 * l.counter + (reader_form l.fn.reader).header_size ≤ 9 + l.reader.at;
}
