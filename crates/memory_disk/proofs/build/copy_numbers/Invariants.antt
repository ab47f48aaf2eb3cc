-- What was copied and what is left are the keys.
use Rattle.memory_disk.proofs.Common.{◌≡◌, ◌++◌}
use Rattle.memory_disk.proofs.build.copy_numbers.Given as goal

abbrev pub invariant-loop-file : goal.invariant-loop-file
invariant-loop-file l = l.out.items ++ l.file-iterator ≡ l.there.keys
