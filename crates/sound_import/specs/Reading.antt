-- The samples of a sound of a vault, as they are brought: those of each channel after those of the one before.
use Rattle.std.specs.Prelude.{◌≤◌, ℕ, ◌+◌, ◌*◌, ◌/◌, ◌%◌, ℤ, pos, Bool, true, ◌&&◌, nat_le, List, length}
use Rattle.std.specs.Prelude.{slice_index_or}
use Rattle.pcm_base.specs.{Outside.Sounds, Wave.channel_of, declared.wav.WavFault.TheVariants.Truncated}
use Rattle.edit_ports.specs.Sounds.{sound_bytes}
use Rattle.wav_pcm.specs.{declared.heads.WavHead.WavHead, declared.fault.SoundFault.SoundFault}
use Rattle.wav_pcm.specs.{declared.fault.SoundFault.TheVariants.BadWav, Heads.bytes_of, Heads.frames_in}
use Rattle.block_writer.specs.{Brought.Brought, declared.fault.BringFault.BringFault}
use Rattle.block_writer.specs.declared.fault.BringFault.TheVariants as bring

-- all frames of a head are there
abbrev pub are_there : WavHead → List ℕ → Bool
are_there head bytes = nat_le (head.at + bytes_of head head.frames) (length bytes)

abbrev pub AreThere : WavHead → List ℕ → Type 0
AreThere head bytes = head.at + bytes_of head head.frames ≤ length bytes

-- a sample, by its place among those of all channels
abbrev pub sample_at : WavHead → List ℕ → ℕ → ℤ
sample_at head bytes i =
    slice_index_or (channel_of head.channels (frames_in head bytes) (i / head.frames)) (i % head.frames) (pos 0)

-- what is known of them: which they are, where the vault tells its bytes and all are there
abbrev pub brought_from : Bool → Sounds → List ℕ → WavHead → Brought
brought_from tells sounds name head = record {
  count = head.channels * head.frames;
  tells = tells && are_there head (sound_bytes (sounds name));
  samples = sample_at head (sound_bytes (sounds name));
  may_fail = true;
  sounds = sounds;
}

-- the vault failed, or gave fewer bytes than it said
abbrev pub fault_from : SoundFault → BringFault
fault_from (BadWav (Truncated want have)) = bring.Short want have
fault_from why = bring.Vault
