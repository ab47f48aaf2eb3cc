-- The samples so far are those of the sound.
use Rattle.std.proofs.Common.{◌≡◌, ◌≤◌, ◌-◌, take}
use Rattle.std.specs.Prelude.{IsTrue}
use Rattle.pcm_base.specs.Pieces.{stretch}
use Rattle.edit_ports.specs.Sounds.{sound_bytes}
use Rattle.wav_pcm.specs.Heads.{FitSamples}
use Rattle.sound_import.specs.Reading.{AreThere, sample_at}
use Rattle.sound_import.proofs.reader.read_samples.Given as goal

abbrev pub invariant-channels : goal.invariant-channels
invariant-channels g l = record {
  within : l.done ≤ l.all;
  read : IsTrue (g.V.Vault.tells l.fn.vault) → AreThere l.head (sound_bytes (g.V.Vault.holds l.fn.vault l.name))
      → take l.done l.out
      ≡ stretch (sample_at l.head (sound_bytes (g.V.Vault.holds l.fn.vault l.name))) l.from l.done;
  fit : FitSamples (take l.done l.out);
  same : g.V.Vault.holds l.vault ≡ g.V.Vault.holds l.fn.vault;
  tells : g.V.Vault.tells l.vault ≡ g.V.Vault.tells l.fn.vault;
  faults : g.V.Vault.fault_count l.vault ≡ g.V.Vault.fault_count l.fn.vault;
}

abbrev pub decreases-channels : goal.decreases-channels
decreases-channels g l = l.all - l.done
