-- Names that several proofs of this crate use, from where they are declared.
pub use Rattle.mixdown.specs.Laid.{heard, laid, left_sum, right_sum}
pub use Rattle.mixdown.specs.Sums.{frame_in, limited, sum_in, weight_in}
pub use Rattle.mixdown.specs.{Loads.heard_track, Stretches.AreStretches, Stretches.gains_of, Stretches.sides_of}
pub use Rattle.pcm_base.specs.Mix.{frame_at, heard_of, is_on_left, is_on_right, loaded_track, mix_of, stretch_of}
pub use Rattle.pcm_base.specs.Mix.{unmuted, weight}
pub use Rattle.pcm_base.specs.declared.sound.Cell.{Cell, TheVariants.Gap, TheVariants.Sample}
pub use Rattle.pcm_base.specs.declared.sound.Side.{Side, TheVariants.Both, TheVariants.Left, TheVariants.Right}
pub use Rattle.pcm_base.specs.{Arithmetic.counted_from, Arithmetic.scaled, Cells.Project, Cells.Track, Cells.longest}
pub use Rattle.std.proofs.Common.{Bool, List, [], ap, ap₂, arith, drop, false, get_or, length, length-drop, map, of_z}
pub use Rattle.std.proofs.Common.{pos, refl, suc, sym, take, to_z, true, w16, w32, zero, ℕ, ℤ, ◌%◌, ◌*◌, ◌+◌, ◌-◌, ◌/◌}
pub use Rattle.std.proofs.Common.{◌<◌, ◌^◌, ◌∙◌, ◌∷◌, ◌≡◌, ◌≤◌}
pub use Rattle.std.proofs.Math.Nat.{mul-le-mul_right}
pub use Rattle.std.proofs.lemmas.Int.{ints}
pub use Rattle.std.proofs.lemmas.List.FromFn.{get_or-map-range_with_len, length-map-range_with_len}
pub use Rattle.std.proofs.lemmas.List.FromFn.{map-range_with_len_more}
pub use Rattle.std.proofs.lemmas.List.{drop-drop, get_or-drop, get_or-take, get_or_default, length-map, length-take}
pub use Rattle.std.proofs.lemmas.List.{same_lists, take_more_set}
pub use Rattle.std.specs.{Int.int_div_euclid, List.range_with_len, Prelude.if◌then◌else◌, Prelude.nat_abs, Prelude.◌+ℤ◌}
