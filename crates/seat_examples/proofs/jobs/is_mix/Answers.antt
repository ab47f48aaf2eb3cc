-- Frames are compared one by one.
use Rattle.std.proofs.{Common.rules, Common.◌≡◌, lemmas.Slice.Eq.slice_eq-Decides}
use Rattle.std.specs.Bool.{Decides}
use Rattle.pcm_base.specs.{declared.sound.Frame.Frame, contracts.sound.FramePartialEq.TheImpl.eq-value}
use Rattle.seat_examples.proofs.jobs.is_mix.Goals as goal

frame_decides : (a b : Frame) → Decides (eq-value.it a b) (a ≡ b)
frame_decides a b = search rules

pub returns : goal.returns
returns c = search (rules, slice_eq-Decides frame_decides c.args.frames.now c.args.mix.now c.eq.result c.eq.ensures)
