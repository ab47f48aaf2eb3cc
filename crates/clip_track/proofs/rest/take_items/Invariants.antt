-- What the loop of `take_items` keeps.
use Rattle.clip_track.proofs.Common.{◌≡◌, ◌++◌, part_items}
use Rattle.clip_track.proofs.rest.take_items.Given as goal

abbrev pub invariant-rows : goal.invariant-rows
invariant-rows l = l.items.items ++ part_items 0 l.left l.rest ≡ part_items 0 l.fn.count l.fn.rest

abbrev pub decreases-rows : goal.decreases-rows
decreases-rows l = l.left
