-- One track more is written.
use Rattle.record_body.proofs.Common.{length, ap, arith, track_bytes, take_some, drop_some}
use Rattle.record_body.proofs.Parts.{part_next, parts_left}
use Rattle.record_body.proofs.writing.write_tracks.Goals as goal

pub slice_bounds-write_track-end : goal.slice_bounds-write_track-end
slice_bounds-write_track-end c =
    let left = parts_left track_bytes c.args.point.now c.loop-i.i _
    (drop_some c.args.point.now c.loop-i.i _ c.track_at-track.ensures) in
    omega (arith, left, c.track_len.ensures.value, c.loop-i.invariant.room)

pub loop-i-preserved : goal.loop-i-preserved
loop-i-preserved c = part_next track_bytes c.args.point.now c.loop-i.i _ c.loop-i.at _ c.loop-i.out c.write_track.new.out
    _ (take_some c.args.point.now c.loop-i.i _ c.track_at-track.ensures)
    (drop_some c.args.point.now c.loop-i.i _ c.track_at-track.ensures) c.loop-i.invariant c.write_track.ensures (omega (arith, c.track_len.ensures.value))
    (omega (arith, c.track_len.ensures.value, ap length c.write_track.ensures))
