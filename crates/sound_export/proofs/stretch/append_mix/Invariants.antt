-- The frames so far are appended.
use Rattle.std.proofs.Common.{◌≡◌, ◌≤◌, ◌-◌, ◌++◌, take, Ok, Some}
use Rattle.std.specs.Prelude.{IsTrue}
use Rattle.pcm_base.specs.{Outside.SameElsewhere, Recordings.frame_bytes}
use Rattle.edit_ports.specs.Sounds.{sound_bytes}
use Rattle.block_store.specs.declared.fault.BlockFault.{BlockFault}
use Rattle.block_cache.specs.Readers.{Hits, Reads}
use Rattle.mix_reader.specs.Heard.{HasHeard}
use Rattle.project_state.specs.Meaning.{point_blocks}
use Rattle.mix_reader.specs.{Readers.IsReader, Tracks.mix_length_of, Tracks.stored_mix}
use Rattle.sound_export.proofs.stretch.append_mix.Given as goal

abbrev pub invariant-stretches : goal.invariant-stretches
invariant-stretches g l = record {
  within : l.mix.at ≤ l.len;
  reader : IsReader l.mix;
  point : l.mix.point.now ≡ l.point;
  reads : Reads (point_blocks l.point) l.fn.reader l.reader (Ok (tt {0}));
  hit : Hits {E = BlockFault} (HasHeard l.fn.reader.cache 0 (mix_length_of l.point) l.point) l.fn.reader l.reader
      (Ok (tt {0}));
  tells : g.V.Vault.tells l.vault ≡ g.V.Vault.tells l.fn.vault;
  others : IsTrue (g.V.Vault.tells l.fn.vault)
      → SameElsewhere l.name (g.V.Vault.holds l.fn.vault) (g.V.Vault.holds l.vault);
  faults : g.V.Vault.fault_count l.vault ≡ g.V.Vault.fault_count l.fn.vault;
  held : IsTrue (g.V.Vault.tells l.fn.vault) → IsTrue (g.S.Store.tells l.fn.reader.store)
      → g.V.Vault.holds l.vault l.name ≡ Some (sound_bytes (g.V.Vault.holds l.fn.vault l.name)
      ++ frame_bytes (take l.mix.at (stored_mix (g.S.Store.reads l.fn.reader.store) l.point)));
}

abbrev pub decreases-stretches : goal.decreases-stretches
decreases-stretches g l = l.len - l.mix.at
