-- Names that several proofs of this crate use, from where they are declared.
pub use Rattle.edit_ports.specs.Sounds.{MayHaveGrown, sound_bytes}
pub use Rattle.pcm_base.specs.Wave.{Format, Sound, channel_of, chunks_from, data_of, ended, format_head, format_of}
pub use Rattle.pcm_base.specs.Wave.{format_tail, i16_at, padded, riff_header, seen_after, some_format, sound_of, u16_at}
pub use Rattle.pcm_base.specs.Wave.{u32_at, wav_of, wav_text}
pub use Rattle.pcm_base.specs.declared.sound.Frame.{Frame}
pub use Rattle.pcm_base.specs.declared.wav.WavFault.{WavFault, TheVariants.BadRate, TheVariants.Truncated}
pub use Rattle.pcm_base.specs.{Outside.Sounds, Recordings.bytes_of_frame, Recordings.frame_bytes}
pub use Rattle.std.proofs.Common.{Bool, Err, Global, List, None, Ok, Option, Result, Some, Vec, [], ap, arith, drop}
pub use Rattle.std.proofs.Common.{false, get_or, inl, inr, length, length-append, map, min, refl, subst, suc, sym, take}
pub use Rattle.std.proofs.Common.{true, zero, ℕ, ℤ, ◌%◌, ◌*◌, ◌++◌, ◌+◌, ◌-◌, ◌/◌, ◌<◌, ◌^◌, ◌∙◌, ◌∷◌, ◌≡◌, ◌≢◌, ◌≤◌}
pub use Rattle.std.proofs.Math.{Nat.mul-div_cancel_left, Nat.mul_comm, Seq.drop-append_seam, Seq.take-append_seam}
pub use Rattle.std.proofs.lemmas.Bool.{cases_lt, le-ltb, lt-ltb, ne_eqb}
pub use Rattle.std.proofs.lemmas.List.{FromFn.length-map-range_with_len, FromFn.map-range_with_len_more}
pub use Rattle.std.proofs.lemmas.List.{drop-drop, drop-take, get_or-drop, get_or-map, get_or-take, length-drop}
pub use Rattle.std.proofs.lemmas.List.{length-map, length-take, length-take-le, same_lists, take-take, take_all}
pub use Rattle.std.proofs.lemmas.List.{take_more_set, FromFn.fill_by_all, FromFn.get_or-map-range_with_len}
pub use Rattle.std.proofs.lemmas.{Grind.flat_map-append, Int.to_z-of_z, Slice.take-put_mid, Nat.div-add-mod'}
pub use Rattle.std.proofs.lemmas.{Nat.mod_below}
pub use Rattle.std.specs.Prelude.{All, FitsSigned, IsTrue, OnOk, codes, if◌then◌else◌, slice_index, slice_index_or}
pub use Rattle.std.specs.{List.range_with_len, Str.bytes_eq, Int.cast_signed, Int.w16}
pub use Rattle.wav_pcm.specs.Heads.{Finds, FitSamples, IsChannelOf, bytes_of}
pub use Rattle.wav_pcm.specs.Wavs.{FramesFit, HaveGrown, seen_in, stereo}
pub use Rattle.wav_pcm.specs.declared.fault.SoundFault.TheVariants.{BadWav, NoFile, TooLong, Vault}
pub use Rattle.wav_pcm.specs.declared.fault.SoundFault.{SoundFault}
pub use Rattle.wav_pcm.specs.declared.{heads.WavHead.WavHead, parts.Chunk.Chunk}
pub use Rattle.wav_pcm.specs.{Written.MayBegin, Parts.IsChunk, Parts.IsFault}
