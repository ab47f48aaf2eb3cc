-- What the loop of `clip_items` keeps.
use Rattle.clip_track.proofs.Common.{◌≡◌, ◌++◌, drop, items_from, end_of, AreClips}
use Rattle.clip_track.proofs.clips.clip_items.Given as goal

abbrev pub invariant-loop-clip : goal.invariant-loop-clip
invariant-loop-clip l = record {
  all_items : l.out.items ++ items_from l.at (drop l.clip-index l.clips) ≡ items_from 0 l.clips;
  apart : AreClips l.at (drop l.clip-index l.clips);
  same_end : end_of l.at (drop l.clip-index l.clips) ≡ end_of 0 l.clips;
}
