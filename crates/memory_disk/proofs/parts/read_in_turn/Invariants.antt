-- The parts so far are read, and the files have them.
use Rattle.std.proofs.Common.{◌≡◌, take}
use Rattle.disk_model.specs.Parts.{AllThere, filled}
use Rattle.memory_disk.specs.History.{reads_of}
use Rattle.memory_disk.proofs.parts.read_in_turn.Given as goal

abbrev pub invariant-parts : goal.invariant-parts
invariant-parts l = record {
  there : AllThere (reads_of l.log.history) (take l.part-index l.parts);
  read : l.out ≡ filled (reads_of l.log.history) (take l.part-index l.parts) l.fn.out;
}
