-- The pages that a read keeps are of blocks that the studio names.
use Rattle.editor_core.proofs.Common.{◌≡◌, subst, ℕ, List, Some, Ghosts, Entries, Track, point_blocks, current_tracks}
use Rattle.editor_core.proofs.Common.{Core, IsStudio, MayFind, reads_among, current_named}
use Rattle.block_cache.specs.Caches.{KeepsCache}
use Rattle.editor_state.proofs.Blocks.CachePages.{ReadsNamed}
use Rattle.editor_views.proofs.UnpinSteps.{pin_named}

module _ {D : Type 0} (disk : Ghosts D) (s : Core D) (is : IsStudio disk s) (cache : Entries) (point : List Track) where
  -- of the current project
  pub of_current : point ≡ current_tracks s.history
      → KeepsCache (disk.tells s.store) (disk.reads s.store) (point_blocks point) s.cache cache
      → ReadsNamed disk s cache
  of_current same keeps =
      reads_among disk s (point_blocks (current_tracks s.history)) cache (current_named disk s is)
      (subst (λ (z : List Track). KeepsCache (disk.tells s.store) (disk.reads s.store) (point_blocks z) s.cache cache)
      same keeps)

  -- of a pin's
  pub of_pin : (pin : ℕ) → MayFind s.pins pin (Some point)
      → KeepsCache (disk.tells s.store) (disk.reads s.store) (point_blocks point) s.cache cache
      → ReadsNamed disk s cache
  of_pin pin found keeps = reads_among disk s (point_blocks point) cache (pin_named disk s is pin point found) keeps
