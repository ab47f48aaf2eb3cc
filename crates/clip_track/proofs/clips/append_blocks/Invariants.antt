-- What the loop of `append_blocks` keeps.
use Rattle.clip_track.proofs.Common.{◌≡◌, ◌++◌, drop, sound_items}
use Rattle.block_sequence.specs.Rows.{flat}
use Rattle.clip_track.proofs.clips.append_blocks.Given as goal

abbrev pub invariant-loop-row : goal.invariant-loop-row
invariant-loop-row l = l.out.items ++ sound_items (flat (drop l.row-index l.rows))
    ≡ l.fn.out.items ++ sound_items (flat l.rows)
