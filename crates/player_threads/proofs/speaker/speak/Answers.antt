-- Frames more, and the end mark.
use Rattle.std.proofs.Common.{◌++◌, take, refl, [], ◌∙◌}
use Rattle.play_ring.specs.Ends.{SameOut-trans}
use Rattle.player_threads.proofs.PlayLemmas.{Writes-start, received-more, received-last, received-open}
use Rattle.player_threads.proofs.speaker.speak.Goals as goal

pub loop-init : goal.loop-init
loop-init g c = record {
  done = [];
  so_far = c.requires;
  writes = Writes-start _;
  goes = λ first h. h;
  ring = ((refl, refl, refl, refl), refl);
  wide = refl;
}

pub returns-then-taken : goal.returns-then-taken
returns-then-taken g c =
    let i = c.loop.invariant in
    let frames = take c.receive-taken.result.count c.receive-taken.new.frames in
    record {
      frames = i.done ++ frames;
      received_is = received-last _ (i.done ++ frames) c.receive-taken.result.ended c.if-taken.true
          (received-more _ _ i.done frames c.receive-taken.result.ended i.so_far c.receive-taken.ensures.received);
      writes = c.write_frames.ensures.writes _ i.done i.writes;
      goes = λ first h. c.write_frames.ensures.goes first (i.goes first h);
      ring = SameOut-trans c.args.output c.loop.output c.receive-taken.new.output i.ring c.receive-taken.ensures.ring;
    }

pub loop-preserved : goal.loop-preserved
loop-preserved g c =
    let i = c.loop.invariant in
    let frames = take c.receive-taken.result.count c.receive-taken.new.frames in
    record {
      done = i.done ++ frames;
      so_far = received-open _ (i.done ++ frames) c.receive-taken.result.ended c.if-taken.false
          (received-more _ _ i.done frames c.receive-taken.result.ended i.so_far c.receive-taken.ensures.received);
      writes = c.write_frames.ensures.writes _ i.done i.writes;
      goes = λ first h. c.write_frames.ensures.goes first (i.goes first h);
      ring = SameOut-trans c.args.output c.loop.output c.receive-taken.new.output i.ring c.receive-taken.ensures.ring;
      wide = c.receive-taken.auto.frames ∙ i.wide;
    }
