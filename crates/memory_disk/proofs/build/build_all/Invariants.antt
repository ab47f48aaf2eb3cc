-- The files so far are as in the image, and the generator stands where the next file's draws begin.
use Rattle.memory_disk.proofs.Common.{◌≡◌, ℕ, ◌≤◌, ◌<◌, length, get_or, image_of, AllHeld, history_of, IsBuilt}
use Rattle.memory_disk.specs.{Images.state_at}
use Rattle.memory_disk.proofs.build.build_all.Given as goal

abbrev pub invariant-loop-file : goal.invariant-loop-file
invariant-loop-file l = record {
  held : AllHeld (length l.new_row.items) l.new_calls.items;
  built : IsBuilt l.numbers l.file-index (image_of l.choice (history_of l.row l.calls))
      (history_of l.new_row.items l.new_calls.items);
  choice : l.draws.choice ≡ l.choice;
  state : (f : ℕ) → ((k : ℕ) → k < l.file-index → get_or l.numbers k 0 < f)
      → (l.file-index < length l.numbers → f ≤ get_or l.numbers l.file-index 0)
      → state_at l.choice (history_of l.row l.calls) f ≡ l.draws.state;
}
