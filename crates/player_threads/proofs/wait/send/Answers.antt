-- What one push took stands after what was sent before.
use Rattle.std.proofs.Common.{◌+◌, ◌++◌, arith, ap, ◌∙◌}
use Rattle.std.proofs.lemmas.List.{take_rest, take_all, length-drop}
use Rattle.play_ring.specs.Ends.{sent, sounds, SameIn-trans}
use Rattle.player_threads.proofs.PlayLemmas.{sounds-take}
use Rattle.player_threads.proofs.wait.send.Goals as goal

pub returns-then-done-frames-clause-sent : goal.returns-then-done-frames-clause-sent
returns-then-done-frames-clause-sent g c =
    let e = rw (take_rest c.args.frames.now c.loop.done) at c.push-done.ensures.sent in
    sounds-take _ _ _ c.args.frames.now c.loop.done c.push-done.result c.loop.invariant.first e
    ∙ ap (λ t. sent c.args.input.now ++ sounds t)
    (take_all (c.loop.done + c.push-done.result) c.args.frames.now (omega (arith, c.if-done-frames.true)))

pub loop-preserved : goal.loop-preserved
loop-preserved g c =
    let e = rw (take_rest c.args.frames.now c.loop.done) at c.push-done.ensures.sent in
    record {
      bound = omega (
        arith,
        length-drop c.loop.done c.args.frames.now,
        rw (take_rest c.args.frames.now c.loop.done) at c.push-done.ensures.bound,
        c.loop.invariant.bound,
      );
      ring = SameIn-trans c.args.input.now c.loop.input c.push-done.new.self c.loop.invariant.ring
          c.push-done.ensures.ring;
      unended = c.push-done.ensures.unended;
      first = sounds-take _ _ _ c.args.frames.now c.loop.done c.push-done.result c.loop.invariant.first e;
    }
