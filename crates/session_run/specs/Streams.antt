-- What a call does to its source and its sink.
use Rattle.std.specs.Prelude.{◌≡◌, ℕ, ◌≤◌, List, ◌++◌, length, take, Option}
use Rattle.pcm_base.specs.Causes.{Rose}
use Rattle.edit_ports.specs.Told.{Course, Open, grown}
use Rattle.script_reader.specs.Change.{Change, change}
use Rattle.edit_ports.specs.declared.sink.Sink as sink
use Rattle.edit_ports.specs.declared.source.Source as source

-- the bytes that a source has left, where it tells them, and its count of faults
pub record Input : Type 0 where
  pub left : Change (Option (List ℕ))
  pub faults : Change ℕ

-- the bytes that a sink has, where it tells them, and its count of faults
pub record Output : Type 0 where
  pub written : Change (Option (List ℕ))
  pub faults : Change ℕ

-- the source of the script and the sink of the answers
pub record Streams : Type 0 where
  pub source : Input
  pub sink : Output

abbrev pub input : {A : Type 0} → source.Ghosts A → Change A → Input
input sources script = record {
  left = change (sources.left script.before) (sources.left script.now);
  faults = change (sources.fault_count script.before) (sources.fault_count script.now);
}

abbrev pub output : {O : Type 0} → sink.Ghosts O → Change O → Output
output sinks out = record {
  written = change (sinks.written out.before) (sinks.written out.now);
  faults = change (sinks.fault_count out.before) (sinks.fault_count out.now);
}

abbrev pub streams : {A O : Type 0} → source.Ghosts A → sink.Ghosts O → Change A → Change O → Streams
streams sources sinks script out = record { source = input sources script; sink = output sinks out }

-- the same of a sink alone, beside what is said of a source
abbrev pub from_sink : {O : Type 0} → sink.Ghosts O → Streams → Change O → Streams
from_sink sinks s out = record s { sink = output sinks out }

-- A source was read with no read after its end or after one that failed, by how its reads went, or it was not read.
pub record IsReadOn {A : Type 0} (sources : source.Ghosts A) (script : Change A) : Type 0 where
  pub course : Course
  pub goes : (first : A) → sources.follows first Open script.before → sources.follows first course script.now

-- a device that was not used
abbrev pub IsIdleInput : Input → Type 0
IsIdleInput mic = (mic.left.now ≡ mic.left.before) × (mic.faults.now ≡ mic.faults.before)

abbrev pub IsIdleOutput : Output → Type 0
IsIdleOutput speaker = (speaker.written.now ≡ speaker.written.before) × (speaker.faults.now ≡ speaker.faults.before)

-- the source was not read
abbrev pub Unread : Streams → Type 0
Unread s = IsIdleInput s.source

-- a text was written: all of it where the count of faults did not rise, and else a part of it from its front
abbrev pub PrintsFrom : Output → List ℕ → Type 0
PrintsFrom sink text =
    ((n : ℕ) × (n ≤ length text) × (sink.written.now ≡ grown sink.written.before (take n text)))
    × ((Rose sink.faults.before sink.faults.now → ⊥) → sink.written.now ≡ grown sink.written.before text)

-- a text was written, and then another one, or a part of it from its front
abbrev pub PrintsThen : Output → List ℕ → List ℕ → Type 0
PrintsThen sink text more =
    (n : ℕ) × (n ≤ length more) × (sink.written.now ≡ grown sink.written.before (text ++ take n more))

-- this text alone was written
abbrev pub Prints : Streams → List ℕ → Type 0
Prints s text = PrintsFrom s.sink text
