-- What the loop of `append_row` keeps.
use Rattle.clip_track.proofs.Common.{◌≡◌, ◌++◌, take, sound_items}
use Rattle.clip_track.proofs.clips.append_row.Given as goal

abbrev pub invariant-loop-block : goal.invariant-loop-block
invariant-loop-block l = l.out.items ≡ l.fn.out.items ++ sound_items (take l.block-index l.blocks)
