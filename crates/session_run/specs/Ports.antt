-- What a call is handed.
use Rattle.std.specs.Prelude.{◌≡◌, ℕ, List, Option}
use Rattle.script_reader.specs.Change.{Change, change}
use Rattle.desk_session.specs.{declared.devices.Devices.Devices, declared.opening.Beside.Beside, Lent.Lent}
use Rattle.session_run.specs.Streams.{Streams, streams}
use Rattle.edit_ports.specs.declared.sink.Sink as sink
use Rattle.edit_ports.specs.declared.source.Source as source

-- Besides its store, before and after: the vault, the microphone, the speaker and the streams.
pub record Ports (V M P : Type 0) : Type 0 where
  pub vault : Change V
  pub mic : Change M
  pub speaker : Change P
  pub streams : Streams

-- the store as it is handed in, and the rest
pub record Handed (D V M P : Type 0) : Type 0 where
  pub store : D
  pub ports : Ports V M P

-- what a call is handed, by what the types of its streams report
abbrev pub handed : {A O D V M P : Type 0} → source.Ghosts A → sink.Ghosts O → Change A → Change O → D → Change V
    → Change M → Change P → Handed D V M P
handed sources sinks script out store sounds mic speaker = record {
  store = store;
  ports = record { vault = sounds; mic = mic; speaker = speaker; streams = streams sources sinks script out };
}

-- the ports of a call, by its devices
abbrev pub ports_of : {V A O M P G : Type 0} → source.Ghosts A → sink.Ghosts O → Change (Devices V A O M P G)
    → Ports V M P
ports_of sources sinks d = record {
  vault = change d.before.vault.now d.now.vault.now;
  mic = change d.before.mic.now d.now.mic.now;
  speaker = change d.before.speaker.now d.now.speaker.now;
  streams = streams sources sinks (change d.before.streams.script.now d.now.streams.script.now)
      (change d.before.streams.out.now d.now.streams.out.now);
}

-- with what a script is run, and what is asked for beside it
pub record Job (V M P : Type 0) : Type 0 where
  pub ports : Ports V M P
  pub beside : Beside

abbrev pub job : {V M P : Type 0} → Ports V M P → Beside → Job V M P
job ports beside = record { ports = ports; beside = beside }

-- what a session is lent of them, where so much is written when it ends
abbrev pub lent_of : {V M P : Type 0} → Ports V M P → Option (List ℕ) → Lent V M P
lent_of p written_now = record {
  vault = p.vault;
  mic = p.mic;
  speaker = p.speaker;
  left = p.streams.source.left;
  written = change p.streams.sink.written.before written_now;
}

-- microphone and speaker are as they were
abbrev pub Idle : {V M P : Type 0} → Ports V M P → Type 0
Idle p = (p.mic.now ≡ p.mic.before) × (p.speaker.now ≡ p.speaker.before)

-- and so is the vault
abbrev pub SameVault : {V M P : Type 0} → Ports V M P → Type 0
SameVault p = p.vault.now ≡ p.vault.before
