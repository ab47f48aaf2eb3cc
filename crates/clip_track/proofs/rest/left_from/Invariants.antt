-- What the loop of `left_from` keeps.
use Rattle.clip_track.proofs.Common.{◌≡◌, ◌-◌, ◌≤◌, length, items_after, AreClips, end_of, items_from}
use Rattle.std.proofs.Common.{◌^◌}
use Rattle.clip_track.proofs.rest.left_from.Given as goal

abbrev pub invariant-rows : goal.invariant-rows
invariant-rows l = record {
  before : l.end ≤ l.place;
  apart : AreClips l.end l.rest;
  few : end_of l.end l.rest ≤ 2 ^ 32;
  items : items_after (l.place - l.end) (items_from l.end l.rest) ≡ items_after l.place (items_from 0 l.clips);
}

abbrev pub decreases-rows : goal.decreases-rows
decreases-rows l = length l.rest
