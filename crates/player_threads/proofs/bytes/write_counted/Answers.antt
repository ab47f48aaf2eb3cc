-- One more write.
use Rattle.std.proofs.Common.{arith, sym, ap, ◌∙◌, refl, length, drop, take, ◌+◌, ◌≤◌}
use Rattle.std.proofs.lemmas.List.{length-drop, take_rest}
use Rattle.edit_ports.specs.Told.{grown}
use Rattle.edit_ports.proofs.ToldLaws.{grown-take, grown-nil}
use Rattle.player_threads.proofs.bytes.write_counted.Goals as goal

pub loop-count-init : goal.loop-count-init
loop-count-init g c = record { bound = omega arith; written = sym (grown-nil _); goes = λ first h. h; kept = refl }

pub loop-count-preserved : goal.loop-count-preserved
loop-count-preserved g c =
    let b : c.loop-count.count + c.in-Ok.more ≤ length c.args.bytes.now =
    omega (arith, length-drop c.loop-count.count c.args.bytes.now, c.in-Ok.ensures.bound) in
    let w = rw (take_rest c.args.bytes.now c.loop-count.count) at c.in-Ok.ensures.bytes in
    record {
      bound = b;
      written = w ∙ ap (λ o. grown o (take c.in-Ok.more (drop c.loop-count.count c.args.bytes.now)))
          c.loop-count.invariant.written ∙ grown-take _ _ _ _;
      goes = λ first h. c.in-Ok.ensures.goes first (c.loop-count.invariant.goes first h);
      kept = c.in-Ok.ensures.cause.kept ∙ c.loop-count.invariant.kept;
    }
