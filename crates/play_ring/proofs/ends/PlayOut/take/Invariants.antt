-- The first frames were received.
use Rattle.std.proofs.Common.{◌≡◌, ◌≤◌, ◌-◌, ◌++◌, length, take}
use Rattle.play_ring.specs.Ends.{received, sounds, known_items, SameOut}
use mathlib.Core.List.{IsPrefix}
use Rattle.play_ring.proofs.ends.PlayOut.take.Given as goal

abbrev pub invariant-loop-count : goal.invariant-loop-count
invariant-loop-count l = record {
  bound : l.count ≤ length l.out;
  ring : SameOut l.fn.self l.self;
  knew : IsPrefix (known_items l.fn.self) (sounds (take l.count l.out) ++ known_items l.self);
  taken : received l.self ≡ received l.fn.self ++ sounds (take l.count l.out);
}

abbrev pub decreases-loop-count : goal.decreases-loop-count
decreases-loop-count l = length l.out - l.count
