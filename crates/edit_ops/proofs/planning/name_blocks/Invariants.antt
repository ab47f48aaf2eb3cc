-- What the loop of `name_blocks` keeps.
use Rattle.edit_ops.proofs.Common.{◌≡◌, ◌+◌, ◌<◌, ◌^◌, ◌++◌, length, into_iter_items, named, new_blocks, next_after}
use Rattle.edit_ops.proofs.planning.name_blocks.Given as goal

abbrev pub invariant-loop-part : goal.invariant-loop-part
invariant-loop-part l = record {
  can_next : (goal.iterator-loop-part).can_next l.part-iterator;
  is_finite : (goal.iterator-loop-part).is_finite l.part-iterator;
  room : l.id + length (into_iter_items l.part-iterator) < 2 ^ 64;
  all_blocks : l.blocks.items ++ named l.id (into_iter_items l.part-iterator) ≡ named l.next l.fn.parts.items;
  all_makes : l.makes.items ++ new_blocks l.id (into_iter_items l.part-iterator) ≡ l.fn.makes.items
      ++ new_blocks l.next l.fn.parts.items;
  same_next : next_after l.id (into_iter_items l.part-iterator) ≡ next_after l.next l.fn.parts.items;
}
