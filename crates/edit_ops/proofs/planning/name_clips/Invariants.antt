-- What the loop of `name_clips` keeps.
use Rattle.edit_ops.proofs.Common.{◌≡◌, ◌+◌, ◌<◌, ◌^◌, ◌++◌, into_iter_items}
use Rattle.edit_ops.proofs.Named.{AllLaid}
use Rattle.edit_ops.specs.LaidClips as laid
use Rattle.edit_ops.proofs.planning.name_clips.Given as goal

abbrev pub invariant-loop-clip : goal.invariant-loop-clip
invariant-loop-clip l = record {
  can_next : (goal.iterator-loop-clip).can_next l.clip-iterator;
  is_finite : (goal.iterator-loop-clip).is_finite l.clip-iterator;
  each : AllLaid l.planner.block_size (into_iter_items l.clip-iterator);
  room : l.id + laid.count_laid (into_iter_items l.clip-iterator) < 2 ^ 64;
  all_clips : l.out.items ++ laid.named_clips l.id (into_iter_items l.clip-iterator)
      ≡ laid.named_clips l.planner.next l.fn.clips.items;
  all_makes : l.makes.items ++ laid.clips_new_blocks l.id (into_iter_items l.clip-iterator)
      ≡ laid.clips_new_blocks l.planner.next l.fn.clips.items;
  same_next : laid.clips_next l.id (into_iter_items l.clip-iterator) ≡ laid.clips_next l.planner.next l.fn.clips.items;
}
