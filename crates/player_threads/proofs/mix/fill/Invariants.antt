-- The first frames were sent.
use Rattle.std.proofs.Common.{◌≡◌, ◌↔◌, ◌≤◌, ◌^◌, List, length, None}
use Rattle.pcm_base.specs.declared.sound.Frame.{Frame}
use Rattle.edit_ports.specs.Answers.{NextAt, most_frames}
use Rattle.play_ring.specs.{Order.IsOpen, Ends.sent, Ends.SameIn}
use Rattle.player_threads.specs.{declared.mix.TheConstants.BATCH_FRAMES, Filled.Gave}
use Rattle.player_threads.proofs.mix.fill.Given as goal

abbrev pub invariant-loop : goal.invariant-loop
invariant-loop g l = record {
  gave : Gave (g.V.FrameGiver.shows l.fn.giver) (sent l.input) l.from;
  same : (all : List Frame) → g.V.FrameGiver.shows l.fn.giver all ↔ g.V.FrameGiver.shows l.giver all;
  goes : (first : g.row.V.Denot) → g.V.FrameGiver.follows first (NextAt 0) l.fn.giver
      → g.V.FrameGiver.follows first (NextAt l.from) l.giver;
  unrefused : g.V.FrameGiver.refused l.giver ≡ None;
  unended : IsOpen (sent l.input);
  ring : SameIn l.fn.input l.input;
  small : l.from ≤ 2 ^ 32;
  wide : length l.frames ≡ BATCH_FRAMES;
  few : length l.frames ≤ most_frames;
}
