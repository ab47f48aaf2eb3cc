-- What the loop of `pass_blocks` keeps.
use Rattle.clip_track.proofs.Common.{◌≡◌, ◌<◌, ◌++◌, length, NoneEmpty, blocks_len, items_after, items_from}
use Rattle.clip_track.proofs.Common.{sound_items, left_items}
use Rattle.block_sequence.specs.Rows.{flat}
use Rattle.clip_track.proofs.rest.pass_blocks.Given as goal

abbrev pub invariant-rows : goal.invariant-rows
invariant-rows l = record {
  within : l.skip < blocks_len l.blocks;
  some : NoneEmpty (l.blocks ++ flat l.left.rows.now);
  items : items_after l.skip (sound_items (l.blocks ++ flat l.left.rows.now) ++ items_from l.left.end l.left.clips.now)
      ≡ items_after l.count (left_items l.fn.left);
}

abbrev pub decreases-rows : goal.decreases-rows
decreases-rows l = length l.blocks
