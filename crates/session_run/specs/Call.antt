-- What the call of the program does.
use Rattle.std.specs.Prelude.{◌≡◌, ◌⊎◌, ℕ, ◌||◌, Bool, true, IsTrue, List, Option, Some, None, if◌then◌else◌, nat_lt}
use Rattle.disk_model.specs.declared.store.Store.{Ghosts}
use Rattle.pcm_base.specs.{Causes.Rose, Studio.fault_sum}
use Rattle.call_words.specs.{declared.asked.Words.Words, Words.is_new, Words.words_of, Texts.Text}
use Rattle.script_text.specs.declared.call_fault.CallFault.{CallFault}
use Rattle.editor_recovery.specs.Honest.{IsHonest}
use Rattle.script_reader.specs.Change.{change}
use Rattle.studio_seats.specs.Stands.{AllTell}
use Rattle.desk_session.specs.Lent.{Kinds, kinds}
use Rattle.session_run.specs.Ports.{Handed, Idle, Ports, SameVault, job}
use Rattle.session_run.specs.Streams.{Streams, Unread, input, output}
use Rattle.session_run.specs.{declared.counts.FaultCounts.FaultCounts, declared.ending.Done.Done}
use Rattle.session_run.specs.{declared.ending.Ending.Ending, Generates.Generates, Projects.Checks, Projects.Lists}
use Rattle.session_run.specs.{Projects.Makes, Refused.IsRefused, Runs.Runs, Promise.Met, Promise.Promise, Tries.Tries}
use Rattle.edit_ports.specs.declared.sink.Sink as sink
use Rattle.edit_ports.specs.declared.source.Source as source
use Rattle.call_words.specs.declared.asked.Words.TheVariants as words
use Rattle.script_text.specs.declared.call_fault.CallFault.TheVariants as call

-- nothing was opened, and the store comes back as it was
abbrev pub Turns : {D : Type 0} → CallFault → D → Streams → Done D → Type 0
Turns fault store s done = IsRefused fault s done × (done.store ≡ store)

-- the script is not read, microphone, speaker and vault are as they were
abbrev pub LeavesRest : {V M P : Type 0} → Ports V M P → Type 0
LeavesRest p = Unread p.streams × Idle p × SameVault p

-- what the types tell of their objects, that of the disk in memory among them
pub record World (R D V M P : Type 0) : Type 1 where
  pub ram : Ghosts R
  pub kinds : Kinds D V M P

-- those of a script on the disk in memory
abbrev pub in_memory : {R D V M P : Type 0} → World R D V M P → Kinds R V M P
in_memory w = kinds w.ram w.kinds.vaults w.kinds.mics w.kinds.speakers

-- What is done for the words.
abbrev pub DoesWords : {R D V M P : Type 0} → World R D V M P → Option Words → Handed D V M P → Done D → Type 0
DoesWords w None h done = Turns call.Usage h.store h.ports.streams done × LeavesRest h.ports
DoesWords w (Some (words.New project)) h done =
    Makes w.kinds.disk project h.store h.ports.streams done × LeavesRest h.ports
DoesWords w (Some (words.Run records plays)) h done =
    Runs w.kinds h.store (job h.ports (record { records = records; plays = plays })) done
DoesWords w (Some words.Try) h done = Tries (in_memory w) h.store h.ports done
DoesWords w (Some words.List) h done = Lists w.kinds.disk h.store h.ports.streams done × LeavesRest h.ports
DoesWords w (Some words.Check) h done = Checks w.kinds.disk h.store h.ports.streams done × LeavesRest h.ports
DoesWords w (Some (words.Gen number lines)) h done =
    Generates w.ram (record { number = number; lines = lines }) h.ports.streams done × (done.store ≡ h.store)
    × LeavesRest h.ports

-- The same, or there was no memory to read the options of a new project.
abbrev pub Does : {R D V M P : Type 0} → World R D V M P → List Text → Handed D V M P → Done D → Type 0
Does w texts h done = DoesWords w (words_of texts) h done
    ⊎ (IsTrue (is_new texts) × Turns call.NoMemory h.store h.ports.streams done × LeavesRest h.ports)

-- the counts of faults of all devices
abbrev pub counts : {A O D V M P : Type 0} → source.Ghosts A → sink.Ghosts O → Kinds D V M P → A → O → D → V → M → P
    → FaultCounts
counts sources sinks k script out store sounds mic speaker = record {
  script = sources.fault_count script;
  out = sinks.fault_count out;
  store = fault_sum (k.disk.read_fault_count store) (k.disk.change_fault_count store);
  vault = k.vaults.fault_count sounds;
  mic = k.mics.fault_count mic;
  speaker = k.speakers.fault_count speaker;
}

-- whether one is higher afterwards
abbrev pub any_rose : FaultCounts → FaultCounts → Bool
any_rose old new = nat_lt old.script new.script || (nat_lt old.out new.out || (nat_lt old.store new.store
    || (nat_lt old.vault new.vault || (nat_lt old.mic new.mic || nat_lt old.speaker new.speaker))))

-- a count of one device rose, or stands at its type's end
abbrev pub OneRose : FaultCounts → FaultCounts → Type 0
OneRose old new = Rose old.script new.script ⊎ Rose old.out new.out ⊎ Rose old.store new.store
    ⊎ Rose old.vault new.vault ⊎ Rose old.mic new.mic ⊎ Rose old.speaker new.speaker

-- the script ran on a project in memory, whose disk may have failed too
abbrev pub IsTry : Option Words → Type 0
IsTry None = ⊥
IsTry (Some (words.New project)) = ⊥
IsTry (Some (words.Run records plays)) = ⊥
IsTry (Some words.Try) = Unit {0}
IsTry (Some words.List) = ⊥
IsTry (Some words.Check) = ⊥
IsTry (Some (words.Gen number lines)) = ⊥

-- the status 4 comes only where a device failed, or for `try`
abbrev pub HasCause : Option Words → FaultCounts → FaultCounts → ℕ → Type 0
HasCause words old new status = status ≡ 4 → OneRose old new ⊎ IsTry words

-- What the call leaves, by what the words left of the store, and whether a count of faults rose.
pub record EndsAs {D M P : Type 0} (rose : Bool) (done : Done D) (ending : Ending D M P) : Type 0 where
  pub status : ending.status ≡ (if rose then 4 else done.status)
  pub opened : ending.opened ≡ done.opened
  pub store : ending.store ≡ done.store
  pub first : ending.first_commit ≡ done.first_commit
  pub last : ending.last_commit ≡ done.last_commit
  pub record_is : ending.record_commit ≡ done.record_commit
  pub script : ending.script_commits ≡ done.commits
  pub pieces : ending.piece_commits ≡ done.pieces

-- what a call of the word `run` met and left
abbrev pub met_of : {D V M P : Type 0} → Kinds D V M P → Handed D V M P → Bool → Bool → Ending D M P → Met D
met_of k h records plays e = record {
  records = records;
  plays = plays;
  store = change h.store e.store;
  script = h.ports.streams.source;
  out = h.ports.streams.sink;
  mic = input k.mics h.ports.mic;
  speaker = output k.speakers h.ports.speaker;
  sounds = change (k.vaults.holds h.ports.vault.before) (k.vaults.holds h.ports.vault.now);
  vault_faults = change (k.vaults.fault_count h.ports.vault.before) (k.vaults.fault_count h.ports.vault.now);
  status = e.status;
  first_commit = e.first_commit;
  last_commit = e.last_commit;
  record_commit = e.record_commit;
  script_commits = e.script_commits;
  piece_commits = e.piece_commits;
}

-- The promise is kept by each call of the word `run` that opened a project, where the disk was honest as it was handed
-- in and vaults report their bytes.
abbrev pub Promises : {D V M P : Type 0} → Kinds D V M P → List Text → Handed D V M P → Ending D M P → Type 0
Promises k texts h e = (records plays : Bool) → words_of texts ≡ Some (words.Run records plays) → e.opened ≡ true
    → IsHonest k.disk h.store → AllTell k.vaults → Promise k.disk (met_of k h records plays e)
