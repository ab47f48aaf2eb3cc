-- The start, and what was received at once.
use Rattle.std.proofs.Common.{refl, arith, []}
use Rattle.recorder_threads.proofs.DrainLemmas.{Takes-start}
use Rattle.recorder_threads.proofs.track.drain.Goals as goal

pub loop-init : goal.loop-init
loop-init g c =
    record {
      chunks = [];
      so_far = c.requires.fresh;
      takes = Takes-start _ _ _ c.new.ensures.items c.requires.unrefused;
      goes = λ first h. rw c.requires.unrefused h;
      ring = ((refl, refl, refl, refl), refl);
      wide = refl;
      small = omega arith;
    }
