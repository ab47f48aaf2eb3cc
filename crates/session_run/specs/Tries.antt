-- A script on a fresh project in memory.
use Rattle.std.specs.Prelude.{◌≡◌, ◌⊎◌, ℕ, ◌<◌, if◌then◌else◌, nat_lt, false}
use Rattle.disk_model.specs.{Room.Room, Room.together, declared.store.Store.Ghosts}
use Rattle.desk_session.specs.{declared.opening.Beside.Beside, Lent.Kinds}
use Rattle.editor_state.specs.{Core.Core, Studios.studio_of}
use Rattle.memory_project.specs.declared.fresh.FreshProject.{FreshProject}
use Rattle.memory_project.specs.Fresh.{IsFresh, made_room, room_of_project}
use Rattle.pcm_base.specs.Studio.{fault_sum}
use Rattle.studio_seats.specs.{Deeds.entries_of, Leads.chain_asks, Stands.AreTold}
use Rattle.script_reader.specs.Change.{change}
use Rattle.session_run.specs.{declared.ending.Done.Done, Outgrown.Outgrows, Ports.Idle, Ports.Ports, Ports.SameVault}
use Rattle.session_run.specs.{Ports.job, Refused.IsRefused, Runs.RunsTo, Streams.Unread}
use Rattle.script_text.specs.declared.call_fault.CallFault.TheVariants as call

-- the project of a script that is tried, with its room: 8,000 samples a second, blocks of at most 4 samples, 256 points
abbrev pub tried_project : FreshProject
tried_project = record {
  rate = 8000;
  block_size = 4;
  depth = 256;
  files = 65536;
  bytes = 67108864;
  calls = 1048576;
}

-- how many calls of the disk failed
abbrev pub faults_of : {D : Type 0} → Ghosts D → Core D → ℕ
faults_of disk s = fault_sum (disk.read_fault_count s.store) (disk.change_fault_count s.store)

-- neither a recording nor a playback
abbrev pub nothing : Beside
nothing = record { records = false; plays = false }

-- more of one of the three than there is room for
abbrev pub IsBeyond : Room → Room → Type 0
IsBeyond room more = (room.files < more.files) ⊎ ((room.bytes < more.bytes) ⊎ (room.calls < more.calls))

-- A script ran on a fresh project of the memory disk. Where that disk counted a fault the status is 4.
pub record Tried {D V M P C : Type 0} (k : Kinds D V M P) (p : Ports V M P) (done : Done C) : Type 0 where
  pub start : Core D
  pub final : Core D
  pub fresh_is : IsFresh k.disk tried_project start
  pub status : ℕ
  pub ran : RunsTo k (change start final) (job p nothing) (record done { status = status })
  pub status_is : done.status ≡ (if nat_lt 0 (faults_of k.disk final) then 4 else status)
  -- It counted none, or the first entries of the run need more than its room, by the model's bounds. A vault has to
  -- report its bytes only if a line names a sound.
  pub served : AreTold k.vaults ran.ran.session.deeds → (faults_of k.disk final ≡ 0)
      ⊎ Outgrows tried_project (studio_of k.disk start) (entries_of ran.ran.session.deeds)
  -- Over each vault: it counted none, or the calls of the run, and making the project, ask more than its room.
  pub spent : (faults_of k.disk final ≡ 0)
      ⊎ IsBeyond (room_of_project tried_project) (together (made_room 10)
      (chain_asks k.disk k.vaults start ran.ran.session.deeds final ran.ran.session.stands.chain))

-- The word `try`, on the memory disk: the store that was handed in comes back as it was.
abbrev pub Tries : {D V M P C : Type 0} → Kinds D V M P → C → Ports V M P → Done C → Type 0
Tries k store p done = (done.store ≡ store)
    × (Tried k p done
    ⊎ (IsRefused call.NoMemory p.streams done × Unread p.streams × Idle p × SameVault p))
