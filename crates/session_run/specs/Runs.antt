-- A script on the project of a store, and beside it a recording and a playback.
use Rattle.std.specs.Prelude.{◌≡◌, ◌⊎◌, ℕ, ◌||◌, true, List, Option, Err}
use Rattle.editor_state.specs.Core.{Core}
use Rattle.editor_recovery.specs.declared.fault.OpenFault.{OpenFault}
use Rattle.script_text.specs.Last.{last_text}
use Rattle.script_reader.specs.{Change.Change, Change.change, Progress.IsCauseOf}
use Rattle.desk_session.specs.{Lent.Kinds, Lent.Outcome, Sessions.IsSession, Sides.is_asked, Sides.side_number}
use Rattle.desk_session.specs.{Sounds.piece_numbers}
use Rattle.session_run.specs.{declared.ending.Done.Done, Last.WritesEnd, Last.mic_failed, Last.play_line}
use Rattle.session_run.specs.{Last.play_refused, Last.record_line, Last.record_refused, Last.speaker_failed}
use Rattle.session_run.specs.{Last.status_of, Opening.Looks, Opening.OpensTo, Ports.Idle, Ports.Job, Ports.Ports}
use Rattle.session_run.specs.{Ports.SameVault, Ports.lent_of, Refused.IsRefused, Refused.call_fault_of, Streams.Unread}
use Rattle.script_text.specs.declared.call_fault.CallFault.TheVariants as call

-- A session took a studio from `start` to `final`: a script, and beside it what was asked for. Its answers and the last
-- lines were written.
pub record RunsOn {D V M P : Type 0} (k : Kinds D V M P) (core : Change (Core D)) (j : Job V M P) : Type 0 where
  pub out : Outcome
  -- what the sink had before the last lines, and its count of faults
  pub mid : Option (List ℕ)
  pub faults : ℕ
  pub session : IsSession k core.before core.now (lent_of j.ports mid) out
  pub asked : (is_asked out.opened.recording ≡ j.beside.records) × (is_asked out.opened.pin ≡ j.beside.plays)
  pub cause : IsCauseOf out.told.stop j.ports.streams.source.faults (change j.ports.streams.sink.faults.before faults)
  pub ended : WritesEnd out.told.stop (record {
    written = change mid j.ports.streams.sink.written.now;
    faults = change faults j.ports.streams.sink.faults.now;
  }) (last_text
      (record_line core.before.next_track out.opened.recording out.kept) (play_line out.opened.pin out.heard)
      core.now.commit_number)

-- What such a session leaves, with its status before the faults of a disk in memory are counted.
pub record RunsTo {D V M P C : Type 0} (k : Kinds D V M P) (core : Change (Core D)) (j : Job V M P) (done : Done C)
    : Type 0 where
  pub ran : RunsOn k core j
  pub status_is : done.status ≡ status_of ran.out.told.stop (mic_failed ran.out.kept || speaker_failed ran.out.heard)
      (ran.out.told.refused
      || (record_refused (record_line core.before.next_track ran.out.opened.recording ran.out.kept)
      || play_refused (play_line ran.out.opened.pin ran.out.heard)))
  pub opened : done.opened ≡ true
  pub first : done.first_commit ≡ core.before.commit_number
  pub last : done.last_commit ≡ core.now.commit_number
  pub record_is : done.record_commit ≡ side_number ran.out.opened.recording
  pub commits : done.commits ≡ ran.out.told.commits
  pub pieces : done.pieces ≡ piece_numbers ran.out.kept

-- there was no memory for a line, the rings or the desk
pub record Wants {D V M P C : Type 0} (start final : Core D) (p : Ports V M P) (done : Done C) : Type 0 where
  pub refused : IsRefused call.NoMemory p.streams done
  pub unread : Unread p.streams
  pub idle : Idle p
  pub same : (final ≡ start) × SameVault p

-- The word `run` on a project that was opened.
abbrev pub RunsOpened : {D V M P : Type 0} → Kinds D V M P → Core D → Job V M P → Done D → Type 0
RunsOpened {D} k start j done = (final : Core D) × (done.store ≡ final.store)
    × (RunsTo k (change start final) j done ⊎ Wants start final j.ports done)

-- The word `run`: the project is opened and a session is run on it, or it is refused.
abbrev pub Runs : {D V M P : Type 0} → Kinds D V M P → D → Job V M P → Done D → Type 0
Runs {D} k store j done = ((start : Core D) × OpensTo k.disk store start × RunsOpened k start j done)
    ⊎ ((fault : OpenFault) × Looks k.disk store done.store (Err fault)
    × IsRefused (call_fault_of fault) j.ports.streams done × Unread j.ports.streams × Idle j.ports
    × SameVault j.ports)
