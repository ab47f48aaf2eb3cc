-- Those of the first tracks that are heard are put.
use Rattle.mix_reader.proofs.Common.{◌≡◌, ◌≤◌, length, take, heard_tracks, track_gains, track_sides}
use Rattle.mix_reader.proofs.tracks.heard_of.Given as goal

abbrev pub invariant-rows : goal.invariant-rows
invariant-rows l = record {
  gains_size : length l.gains ≡ 64;
  sides_size : length l.sides ≡ 64;
  among : l.count ≤ l.i;
  count : l.count ≡ length (heard_tracks (take l.i l.point));
  gains : take l.count l.gains ≡ track_gains (heard_tracks (take l.i l.point));
  sides : take l.count l.sides ≡ track_sides (heard_tracks (take l.i l.point));
}
