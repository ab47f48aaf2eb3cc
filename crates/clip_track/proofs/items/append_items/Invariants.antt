-- What the loop of `append_items` keeps.
use Rattle.clip_track.proofs.Common.{◌≡◌, ◌++◌, length, take, drop, part_items}
use Rattle.clip_track.proofs.items.append_items.Given as goal

abbrev pub invariant-loop-item : goal.invariant-loop-item
invariant-loop-item l = record {
  all_items : l.out.items ++ part_items l.skip l.left (drop l.item-index l.items) ≡ l.fn.out.items
      ++ part_items l.fn.skip l.fn.n l.items;
  front : take (length l.fn.out.items) l.out.items ≡ l.fn.out.items;
}
