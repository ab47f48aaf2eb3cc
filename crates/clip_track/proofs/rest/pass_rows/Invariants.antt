-- What the loop of `pass_rows` keeps.
use Rattle.clip_track.proofs.Common.{◌≡◌, ◌<◌, ◌++◌, length, NoneEmpty, blocks_len, items_after, items_from}
use Rattle.clip_track.proofs.Common.{sound_items, left_items}
use Rattle.block_sequence.specs.Rows.{flat}
use Rattle.clip_track.proofs.rest.pass_rows.Given as goal

abbrev pub invariant-rows : goal.invariant-rows
invariant-rows l = record {
  within : l.skip < blocks_len (flat l.rows);
  some : NoneEmpty (flat l.rows);
  items : items_after l.skip (sound_items (flat l.rows) ++ items_from l.left.end l.left.clips.now)
      ≡ items_after l.count (left_items l.fn.left);
}

abbrev pub decreases-rows : goal.decreases-rows
decreases-rows l = length l.rows
