-- One call more of the giver.
use Rattle.std.proofs.Common.{arith, refl, ap, subst, ◌∙◌, ◌≡◌, ◌<◌, ◌≤◌, ◌+◌, ℕ, if◌then◌else◌, nat_lt, Bool, length}
use Rattle.std.proofs.Common.{true, false, Ok}
use Rattle.std.proofs.lemmas.Bool.Decides.{nat_tests}
use Rattle.edit_ports.specs.Answers.{AtEnd, NextAt, Reading, after_read}
use Rattle.play_ring.specs.Ends.{SameIn-trans}
use Rattle.player_threads.proofs.PlayLemmas.{Gave-start, Gave-more, Sends-end, Sends-refused}
use Rattle.player_threads.proofs.mix.fill.Goals as goal

-- a read that gave fewer frames than it asked for was the last
at_end : (from asked given : ℕ) → given < asked → after_read from asked (Ok given) ≡ AtEnd
at_end from asked given fewer =
    let short : nat_lt given asked ≡ true = grind (arith, nat_tests) in
    ap (λ (b : Bool). if b then AtEnd else NextAt (from + given)) short

-- one that gave all of them was not
goes_on : (from asked given : ℕ) → asked ≤ given → after_read from asked (Ok given) ≡ NextAt (from + given)
goes_on from asked given all =
    let full : nat_lt given asked ≡ false = grind (arith, nat_tests) in
    ap (λ (b : Bool). if b then AtEnd else NextAt (from + given)) full

pub loop-init : goal.loop-init
loop-init g c = record {
  gave = Gave-start _ _ c.requires.fresh;
  same = λ all. (λ h. h, λ h. h);
  goes = λ first h. h;
  unrefused = c.requires.unrefused;
  unended = rw c.requires.fresh (λ k d h. absurd (omega arith));
  ring = ((refl, refl, refl, refl), refl);
  small = omega arith;
  wide = refl;
  few = omega arith;
}

pub returns-then-count-lt-BATCH_FRAMES : goal.returns-then-count-lt-BATCH_FRAMES
returns-then-count-lt-BATCH_FRAMES g c =
    let i = c.loop.invariant in
    let bound = rw c.in-Ok.is at c.give_frames-what.ensures.bound in
    let given = rw c.in-Ok.is at c.give_frames-what.ensures.given in
    let limit = rw c.in-Ok.is at c.give_frames-what.ensures.limit in
    let same = c.give_frames-what.ensures.same in
    let unrefused = rw c.in-Ok.is at c.give_frames-what.ensures.unrefused in
    let back = c.finish.ensures.back in
    let fewer : c.in-Ok.count < length c.loop.frames = omega (arith, i.wide, c.if-count-lt-BATCH_FRAMES.true) in
    record {
      place = c.loop.from;
      sends = Sends-end _ _ _ _ c.loop.from c.in-Ok.count (length c.loop.frames) c.loop.from
          c.give_frames-what.new.out _ back.1 i.small limit i.gave c.send.ensures.sent bound
          (λ xs h. given xs ((i.same xs).0 h)) fewer c.finish.ensures.sent;
      same = λ all. rw back.0 (λ h. (same all).0 ((i.same all).0 h), λ h. (i.same all).1 ((same all).1 h));
      cause = rw (back.0, back.1) (unrefused ∙ i.unrefused);
      goes = λ first h. rw (back.0, back.1)
          (subst (λ (r : Reading). g.V.FrameGiver.follows first r c.give_frames-what.new.self)
          (ap (after_read c.loop.from (length c.loop.frames)) c.in-Ok.is
          ∙ at_end c.loop.from (length c.loop.frames) c.in-Ok.count
          fewer) (c.give_frames-what.ensures.goes first (i.goes first h) (omega (arith, i.wide)) i.few));
      ring = SameIn-trans c.args.input c.send.new.input c.finish.result.input
          (SameIn-trans c.args.input c.loop.input c.send.new.input i.ring c.send.ensures.ring) c.finish.ensures.ring;
    }

pub loop-preserved : goal.loop-preserved
loop-preserved g c =
    let i = c.loop.invariant in
    let bound = rw c.in-Ok.is at c.give_frames-what.ensures.bound in
    let given = rw c.in-Ok.is at c.give_frames-what.ensures.given in
    let limit = rw c.in-Ok.is at c.give_frames-what.ensures.limit in
    let same = c.give_frames-what.ensures.same in
    let wide : length c.give_frames-what.new.out ≡ length c.loop.frames = c.give_frames-what.auto.out in
    let full : c.in-Ok.count ≡ length c.loop.frames =
    omega (arith, bound, wide, i.wide, c.if-count-lt-BATCH_FRAMES.false) in
    record {
      gave = Gave-more _ _ _ c.loop.from c.in-Ok.count (length c.loop.frames) c.give_frames-what.new.out i.gave
          c.send.ensures.sent bound
          (λ xs h. given xs ((i.same xs).0 h)) full;
      same = λ all. (λ h. (same all).0 ((i.same all).0 h), λ h. (i.same all).1 ((same all).1 h));
      goes = λ first h. subst (λ (r : Reading). g.V.FrameGiver.follows first r c.give_frames-what.new.self)
          (ap (after_read c.loop.from (length c.loop.frames)) c.in-Ok.is
          ∙ goes_on c.loop.from (length c.loop.frames) c.in-Ok.count (omega (arith, full)))
          (c.give_frames-what.ensures.goes first (i.goes first h) (omega (arith, i.wide)) i.few);
      unrefused = (rw c.in-Ok.is at c.give_frames-what.ensures.unrefused) ∙ i.unrefused;
      unended = c.send.ensures.unended;
      ring = SameIn-trans c.args.input c.loop.input c.send.new.input i.ring c.send.ensures.ring;
      small = limit (omega (arith, full, i.wide));
      wide = wide ∙ i.wide;
      few = omega (arith, wide, i.few);
    }

pub returns-in-Err : goal.returns-in-Err
returns-in-Err g c =
    let i = c.loop.invariant in
    let back = c.finish-in-Err.ensures.back in
    let same = c.give_frames-what.ensures.same in
    let refusal = rw (i.unrefused, c.in-Err.is) at c.give_frames-what.ensures.refusal in
    record {
      place = c.loop.from;
      sends = Sends-refused _ _ _ c.loop.from _ c.in-Err.reason back.1 i.small i.gave c.finish-in-Err.ensures.sent;
      same = λ all. rw back.0 (λ h. (same all).0 ((i.same all).0 h), λ h. (i.same all).1 ((same all).1 h));
      cause = rw (back.0, back.1) refusal;
      goes =
          λ first h. rw (back.0, back.1) (rw c.in-Err.is at (c.give_frames-what.ensures.goes first (i.goes first h)
          (omega (arith, i.wide)) i.few));
      ring = SameIn-trans c.args.input c.loop.input c.finish-in-Err.result.input i.ring c.finish-in-Err.ensures.ring;
    }
