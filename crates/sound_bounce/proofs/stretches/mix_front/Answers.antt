-- The frames stand at the front.
use Rattle.sound_bounce.proofs.Common.{◌≡◌, ◌∙◌, List, length, drop, ap, length-map-range_with_len, Frame, frame_at}
use Rattle.sound_bounce.proofs.Common.{loaded_tracks}
use Rattle.std.proofs.lemmas.List.{take_at}
use Rattle.sound_bounce.proofs.stretches.mix_front.Goals as goal

pub returns : goal.returns
returns g c =
    let l = c.args.loaded.now in
    let out : List Frame = c.mix_loaded.new.out in
    let size : length out ≡ l.len =
    ap length c.mix_loaded.ensures.frames ∙ length-map-range_with_len (frame_at (loaded_tracks l)) 0 l.len in
    take_at out (drop l.len c.args.frames.now) l.len size ∙ c.mix_loaded.ensures.frames
