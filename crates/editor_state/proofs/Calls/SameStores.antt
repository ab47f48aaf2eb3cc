-- What holds of a studio over a store of which nothing was changed, for the crates above.
use Rattle.editor_state.proofs.Common.{◌≡◌, None, Kept, Ghosts, EachSince, Keeps, Core, IsHeld, IsStudio, shown}
use Rattle.editor_state.proofs.Common.{studio_of}
use Rattle.editor_state.proofs.Calls.LookCalls.{keeps_still, looked_held, looked_studio}
use Rattle.editor_state.proofs.Blocks.CachePages.{reads_none}

module _ {D : Type 0} (disk : Ghosts D) (s : Core D) (is : IsStudio disk s) (store : D)
    (kept : Kept disk s.store store) where
  pub rests_studio : IsStudio disk (record s { store = store })
  rests_studio = looked_studio disk s is store kept s.cache (reads_none disk s)

  pub rests_held : IsHeld disk s → IsHeld disk (record s { store = store })
  rests_held held = looked_held disk s is store kept s.cache (reads_none disk s) held

  pub rests_keeps : s.stopped ≡ None → IsHeld disk s
      → EachSince disk s.store store (λ c. Keeps c (shown (studio_of disk s)))
  rests_keeps going held = keeps_still disk s is store kept s.cache (reads_none disk s) going held
