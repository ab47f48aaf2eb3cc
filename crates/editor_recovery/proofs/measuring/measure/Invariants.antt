-- The files so far are measured, and nothing else.
use Rattle.editor_recovery.proofs.Common.{◌≡◌, ℕ, ◌<◌, get_or, Contains, IsTrue, Kept, NoFault, size_in, file_size}
use Rattle.editor_recovery.proofs.Common.{◌⊎◌}
use Rattle.editor_recovery.proofs.measuring.measure.Given as goal

abbrev pub invariant-loop-i : goal.invariant-loop-i
invariant-loop-i g l = record {
  kept : Kept g.S.Store l.fn.store l.store;
  no_fault : NoFault g.S.Store l.fn.store l.store;
  listed : (file : ℕ) → (size_in l.sizes file ≡ 0) ⊎ Contains l.files file;
  there : IsTrue (g.S.Store.tells l.fn.store) → (k : ℕ) → k < l.i
      → size_in l.sizes (get_or l.files k 0) ≡ file_size (g.S.Store.reads l.fn.store) (get_or l.files k 0);
  right : IsTrue (g.S.Store.tells l.fn.store) → (file : ℕ)
      → (size_in l.sizes file ≡ 0) ⊎ (size_in l.sizes file ≡ file_size (g.S.Store.reads l.fn.store) file);
}
