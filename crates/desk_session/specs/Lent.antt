-- What a session is handed, and what it tells.
use Rattle.std.specs.Prelude.{◌≡◌, ℕ, List, Option}
use Rattle.disk_model.specs.declared.store.Store.{Ghosts}
use Rattle.script_reader.specs.{declared.stop.Stop.Stop, Change.Change, Change.change, Progress.IsCauseOf}
use Rattle.script_reader.specs.{Progress.IsReadTo}
use Rattle.desk_session.specs.{declared.devices.Devices.Devices, declared.opening.Opened.Opened}
use Rattle.desk_session.specs.{declared.outcome.PlayOutcome.PlayOutcome, declared.outcome.RecordOutcome.RecordOutcome}
use Rattle.desk_session.specs.{declared.outcome.Report.Report, declared.outcome.ScriptOutcome.ScriptOutcome}
use Rattle.edit_ports.specs.declared.sink.Sink as sink
use Rattle.edit_ports.specs.declared.source.Source as source
use Rattle.edit_ports.specs.declared.vault.Vault as vault

-- what the types of store, vault, microphone and speaker tell of their objects
pub record Kinds (D V M P : Type 0) : Type 1 where
  pub disk : Ghosts D
  pub vaults : vault.Ghosts V
  pub mics : source.Ghosts M
  pub speakers : sink.Ghosts P

abbrev pub kinds : {D V M P : Type 0} → Ghosts D → vault.Ghosts V → source.Ghosts M → sink.Ghosts P → Kinds D V M P
kinds disk vaults mics speakers = record { disk = disk; vaults = vaults; mics = mics; speakers = speakers }

-- What is lent to a session, before and after it: the vault, the microphone and the speaker; and where they tell them
-- the bytes that the script has left, and those that were written of the answers.
pub record Lent (V M P : Type 0) : Type 0 where
  pub vault : Change V
  pub mic : Change M
  pub speaker : Change P
  pub left : Change (Option (List ℕ))
  pub written : Change (Option (List ℕ))

-- by the devices
abbrev pub lent_by : {V A O M P G : Type 0} → source.Ghosts A → sink.Ghosts O → Change (Devices V A O M P G)
    → Lent V M P
lent_by sources sinks d = record {
  vault = change d.before.vault.now d.now.vault.now;
  mic = change d.before.mic.now d.now.mic.now;
  speaker = change d.before.speaker.now d.now.speaker.now;
  left = change (sources.left d.before.streams.script.now) (sources.left d.now.streams.script.now);
  written = change (sinks.written d.before.streams.out.now) (sinks.written d.now.streams.out.now);
}

-- what stopped a script has its cause in the counts of faults of the devices
abbrev pub IsCausedIn : {V A O M P G : Type 0} → source.Ghosts A → sink.Ghosts O → Change (Devices V A O M P G) → Stop
    → Type 0
IsCausedIn sources sinks d stop =
    IsCauseOf stop
    (change (sources.fault_count d.before.streams.script.now) (sources.fault_count d.now.streams.script.now))
    (change (sinks.fault_count d.before.streams.out.now) (sinks.fault_count d.now.streams.out.now))

-- the script was read up to what stopped it, and no further
abbrev pub ReadsScript : {V A O M P G : Type 0} → source.Ghosts A → Change (Devices V A O M P G) → Stop → Type 0
ReadsScript sources d stop = IsReadTo sources stop (change d.before.streams.script.now d.now.streams.script.now)

-- these are the devices that were lent
abbrev pub AreSame : {V A O M P G : Type 0} → Devices V A O M P G → Devices V A O M P G → Type 0
AreSame lent back = (back.vault.ghost_name ≡ lent.vault.ghost_name)
    × (back.streams.script.ghost_name ≡ lent.streams.script.ghost_name)
    × (back.streams.out.ghost_name ≡ lent.streams.out.ghost_name)
    × (back.mic.ghost_name ≡ lent.mic.ghost_name)
    × (back.speaker.ghost_name ≡ lent.speaker.ghost_name)

-- what a session tells: of the script, of what was opened for it, of the recording and of the playback
pub record Outcome : Type 0 where
  pub told : ScriptOutcome
  pub opened : Opened
  pub kept : Option RecordOutcome
  pub heard : Option PlayOutcome

-- by what was opened, and what it reports
abbrev pub outcome : Opened → Report → Outcome
outcome opened report =
    record { told = report.told; opened = opened; kept = report.kept; heard = report.heard }
