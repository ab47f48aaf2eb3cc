-- The greatest length so far, and those that are left.
use Rattle.mix_reader.proofs.Common.{◌≡◌, ◌≤◌, drop, max, Sources, mix_length, meant, mix_length_of}
use Rattle.std.proofs.Common.{◌^◌}
use Rattle.mix_reader.proofs.tracks.mix_len.Given as goal

abbrev pub invariant-rows : goal.invariant-rows
invariant-rows l = record {
  value : max l.len (mix_length_of (drop l.i l.point)) ≡ mix_length_of l.point;
  frames : (src : Sources) → max l.len (mix_length (meant src (drop l.i l.point))) ≡ mix_length (meant src l.point);
  few : l.len ≤ 2 ^ 32;
}
