-- What the loop of `add_clips` keeps.
use Rattle.edit_ops.proofs.Common.{◌≡◌, ◌+◌, ◌≤◌, ◌++◌, drop, List, Clip, AllHalfFull, end_of}
use Rattle.clip_track.specs.Clips.{AreClips}
use Rattle.edit_ops.specs.Joins.{IsJoining, finished, moved}
use Rattle.edit_ops.proofs.joins.add_clips.Given as goal

abbrev pub invariant-loop-clip : goal.invariant-loop-clip
invariant-loop-clip l = record {
  joining : IsJoining l.planner.block_size l.all;
  added : (es : List Clip) → finished l.all (moved 0 l.by (drop l.clip-index l.clips) ++ es)
      ≡ finished l.fn.joining (moved 0 l.by l.clips ++ es);
  apart : AreClips 0 (drop l.clip-index l.clips);
  half_full : AllHalfFull l.planner.block_size (drop l.clip-index l.clips);
  few : l.by + end_of 0 (drop l.clip-index l.clips) ≤ 4294967296;
}
