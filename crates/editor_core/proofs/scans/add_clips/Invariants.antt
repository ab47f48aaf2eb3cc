-- The blocks of the clips so far, and of those that are left.
use Rattle.editor_core.proofs.Common.{◌≡◌, ◌++◌, drop, layout_blocks}
use Rattle.editor_core.proofs.scans.add_clips.Given as goal

abbrev pub invariant-loop-clip : goal.invariant-loop-clip
invariant-loop-clip l =
    l.blocks.items ++ layout_blocks (drop l.clip-index l.clips) ≡ l.fn.blocks.items ++ layout_blocks l.clips
