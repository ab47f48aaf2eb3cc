-- What was right of the files is right after each page.
use Rattle.block_cache.proofs.Common.{[], ◌∷◌, Bool, Files, IsTrue, KeepsCache}
use Rattle.block_cache.specs.Pages.{AreFrameBytes}
use Rattle.block_cache.proofs.ahead.keep_pages.Given as goal

abbrev pub invariant-loop-page : goal.invariant-loop-page
invariant-loop-page l = (tells : Bool) (files : Files)
    → (IsTrue tells → AreFrameBytes files l.run.level l.run.block l.run.from l.bytes)
    → KeepsCache tells files (l.run.block ∷ []) l.fn.cache l.cache
