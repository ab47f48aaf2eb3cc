-- The samples so far are those of the file, and nothing of the disk has changed.
use Rattle.std.proofs.Common.{◌≡◌, ◌<◌, ◌≤◌, ◌+◌, ◌*◌, ◌-◌, take, length}
use Rattle.std.specs.Prelude.{IsTrue}
use Rattle.disk_model.specs.{Disk.bytes_of, Frames.Kept}
use Rattle.sample_block.specs.Faults.{samples_in}
use Rattle.block_store.proofs.reads.read_buffers.Given as goal

abbrev pub invariant-buffers : goal.invariant-buffers
invariant-buffers g l = record {
  within : l.done ≤ length l.out;
  kept : Kept g.S.Store l.fn.store l.store;
  count : g.S.Store.read_fault_count l.store ≡ g.S.Store.read_fault_count l.fn.store;
  whole : IsTrue (g.S.Store.tells l.fn.store) → 0 < l.done
      → 16 + 2 * (l.from + l.done) ≤ length (bytes_of (g.S.Store.reads l.fn.store l.block.id));
  samples : IsTrue (g.S.Store.tells l.fn.store)
      → take l.done l.out ≡ samples_in (bytes_of (g.S.Store.reads l.fn.store l.block.id)) (16 + 2 * l.from) l.done;
}

abbrev pub decreases-buffers : goal.decreases-buffers
decreases-buffers g l = length l.initial.out - l.done
