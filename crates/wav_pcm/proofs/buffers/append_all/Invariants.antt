-- The frames so far are appended.
use Rattle.wav_pcm.proofs.Common.{◌≡◌, ◌≤◌, ◌-◌, ◌++◌, take, Some, IsTrue, frame_bytes, sound_bytes}
use Rattle.pcm_base.specs.{Outside.SameElsewhere}
use Rattle.wav_pcm.specs.Written.{IsThere}
use Rattle.wav_pcm.proofs.buffers.append_all.Given as goal

abbrev pub invariant-buffers : goal.invariant-buffers
invariant-buffers g l = record {
  within : l.done ≤ l.all;
  held : IsTrue (g.V.Vault.tells l.fn.vault) → IsThere (g.V.Vault.holds l.fn.vault l.name)
      → g.V.Vault.holds l.vault l.name ≡ Some (sound_bytes (g.V.Vault.holds l.fn.vault l.name)
      ++ frame_bytes (take l.done l.frames));
  others : IsTrue (g.V.Vault.tells l.fn.vault)
      → SameElsewhere l.name (g.V.Vault.holds l.fn.vault) (g.V.Vault.holds l.vault);
  tells : g.V.Vault.tells l.vault ≡ g.V.Vault.tells l.fn.vault;
  faults : g.V.Vault.fault_count l.vault ≡ g.V.Vault.fault_count l.fn.vault;
}

abbrev pub decreases-buffers : goal.decreases-buffers
decreases-buffers g l = l.all - l.done
