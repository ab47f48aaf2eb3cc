-- The promise: what a call of the word `run` does, in the words of the model, the texts and the disk.
--
-- A Change has a value as it was before the call, and now: at its return. An image is what a stop of the disk may
-- leave: of each file its bytes, or that it is absent. `EachNow` is about each image that a stop now may leave.
-- `EachSince` is about each that a stop may leave at any moment since the earlier state. `shown` is what opening an
-- image finds of a studio: its history, its rate and block size, the next track and the commit number, and no clipboard
-- and no pins. `Keeps image project`: opening finds that project, with all blocks whole. An entry is in flight if the
-- disk failed in it, or stops in it. An image then holds what the entry does, whole, or nothing of it, so of several
-- pieces all or none. `KeepsPrefix`: the project after the first n entries, of which the last may be in flight.
-- `StopsInFlight`: after all entries up to the one that stopped the studio; that one is in flight, and was answered
-- DiskFault. `preceded read left`: the bytes read, and then those that are left. `BreaksOff`: all answers but the last,
-- and a part of that one. `Rose before now`: a count of faults rose, or stands at the end of its type (2^64 - 1), where
-- it can't.
use Rattle.std.specs.Prelude.{◌≡◌, ◌≢◌, ◌⊎◌, ℕ, ◌<◌, ◌||◌, Bool, true, List, [], ◌∷◌, ◌++◌, length, Option, Some, None}
use Rattle.std.specs.Prelude.{false, IsSome, IsSomeAnd, IfErr, flat_map}
use Rattle.pcm_base.specs.{declared.limits.TheConstants.COUNTER_LIMIT, declared.answer.Answer.Answer}
use Rattle.pcm_base.specs.{declared.command.Call.TheVariants.Line, declared.command.Call.TheVariants.Pin}
use Rattle.pcm_base.specs.{declared.command.Command.TheVariants.Track, declared.entry.Entry.Entry, Causes.Rose}
use Rattle.pcm_base.specs.{Outside.Sounds, Run.Run, Run.result_of, Studio.Studio, Studio.fault_sum}
use Rattle.disk_model.specs.declared.store.Store.{Ghosts}
use Rattle.edit_ports.specs.Told.{preceded}
use Rattle.pin_turn.specs.Counts.{Each}
use Rattle.project_journal.specs.Gate.{EachNow, EachSince}
use Rattle.record_body.specs.Saved.{Keeps}
use Rattle.script_text.specs.{declared.last.PlayLine.PlayLine, declared.last.RecordLine.RecordLine, Last.last_text}
use Rattle.script_text.specs.{Text.text_of}
use Rattle.editor_state.specs.Studios.{IsHeld, shown, studio_of}
use Rattle.editor_state.specs.{Core.Core, Events.KeepsPrefix, Left.LeavesForeign}
use Rattle.studio_seats.specs.{Desks.spent, Faults.AreServed, Faults.IsCalm, Leads.IsUnharmed, Leads.StopsInFlight}
use Rattle.studio_seats.specs.{Pins.pin_frames}
use Rattle.script_reader.specs.{declared.stop.Stop.Stop, Change.Change, Change.change, Progress.BreaksOff}
use Rattle.script_reader.specs.{Progress.IsCut, Served.IsOfNoDevice, Answering.is_refusal, Spent.TellSpent}
use Rattle.desk_session.specs.{declared.side.Side.Side, Sides.is_asked, Sides.side_number}
use Rattle.session_run.specs.Entries.{entries_by, is_by, last_number, numbers_by, pieces_apart}
use Rattle.session_run.specs.Sides.{MakesSide, PlaysSide, RecordsSide}
use Rattle.session_run.specs.Streams.{Input, Output, PrintsFrom, PrintsThen}
use Rattle.session_run.specs.{Answered.Answered, Opening.OpensTo, VaultSounds.SoundsFollow}
use Rattle.pcm_base.specs.declared.answer.Reply.TheVariants as reply
use Rattle.script_text.specs.declared.last.PlayEnd.TheVariants as play
use Rattle.script_text.specs.declared.last.RecordEnd.TheVariants as rec
use Rattle.script_reader.specs.declared.stop.Stop.TheVariants as stop

-- What a call met and what it left, as the types of its devices report them, whether a recording and a playback were
-- asked for, and the exit status and the numbers of its Ending. Of a device `left` are the bytes that were not yet
-- read, `written` those that were printed or played, and `faults` counts its calls that failed.
pub record Met (D : Type 0) : Type 0 where
  pub records : Bool
  pub plays : Bool
  pub store : Change D
  pub script : Input
  pub out : Output
  pub mic : Input
  pub speaker : Output
  pub sounds : Change Sounds
  pub vault_faults : Change ℕ
  pub status : ℕ
  pub first_commit : ℕ
  pub last_commit : ℕ
  pub record_commit : Option ℕ
  pub script_commits : List ℕ
  pub piece_commits : List ℕ

-- How a session ended: what stopped its script, the bytes of it that were read, and the lines carried out. And what
-- became of a recording and of a playback, their actors, and their last lines.
pub record Ended : Type 0 where
  pub stop : Stop
  pub read : List ℕ
  pub lines : List (List ℕ)
  pub recording : Side
  pub playback : Side
  pub recorder : ℕ
  pub player : ℕ
  pub record_line : Option RecordLine
  pub play_line : Option PlayLine

-- what stopped a script is seen in the counts of its devices
abbrev pub IsStoppedFor : Stop → Change ℕ → Change ℕ → Type 0
IsStoppedFor stop.End script out = script.now ≡ script.before
IsStoppedFor stop.Limit script out = script.now ≡ script.before
IsStoppedFor stop.SourceFault script out = Rose script.before script.now
IsStoppedFor stop.OutFault script out = (script.now ≡ script.before) × Rose out.before out.now

-- a studio has the disk's counts of faults
abbrev pub HasFaults : {D : Type 0} → Ghosts D → D → Studio → Type 0
HasFaults disk store s =
    (s.read_faults ≡ disk.read_fault_count store) × (s.change_faults ≡ disk.change_fault_count store)

-- the faults that the disk counts
abbrev pub store_faults : {D : Type 0} → Ghosts D → D → ℕ
store_faults disk store = fault_sum (disk.read_fault_count store) (disk.change_fault_count store)

-- the counts of faults of all devices
abbrev pub fault_counts : {D : Type 0} → Ghosts D → Met D → List (Change ℕ)
fault_counts disk m = m.script.faults ∷ m.out.faults
    ∷ change (store_faults disk m.store.before) (store_faults disk m.store.now)
    ∷ m.vault_faults ∷ m.mic.faults ∷ m.speaker.faults ∷ []

-- one of them at least
abbrev pub AnyOf : (Change ℕ → Type 0) → List (Change ℕ) → Type 0
AnyOf P [] = ⊥
AnyOf P (c ∷ cs) = P c ⊎ AnyOf P cs

-- What is promised if the disk is honest (IsHonest of editor_recovery) and the vault of the sounds reports its bytes.
-- The premises stand at `Promises` in Call.
pub record Promise {D : Type 0} (disk : Ghosts D) (m : Met D) : Type 0 where
  -- What nobody but the program sees: the project that was opened, and the studio at the end; the entries of the
  -- opening's track and pin, and those of the session; the answers, and how the session ended.
  pub start : Studio
  pub final : Studio
  pub track : List Entry
  pub pin : List Entry
  pub entries : List Entry
  pub answers : List Answer
  pub end : Ended
  -- the studio is that of the project on the disk, with nothing copied or pinned
  pub began : (core : Core D) × OpensTo disk m.store.before core × (start ≡ studio_of disk core)
  pub opened : Keeps (disk.reads m.store.before) (shown start)
  pub new : (start.stopped ≡ None) × (start.state.clipboard ≡ None) × (start.state.next_pin ≡ 1)
  -- its counts of faults are the disk's, before and at the end
  pub faults_before : HasFaults disk m.store.before start
  pub faults_now : HasFaults disk m.store.now final
  -- And at the end the studio is the one that the disk holds: its journal, up to where the run says that it ends, and
  -- all its blocks. So `packed C BYTES` has the size of the journal that a `compact` left.
  pub holds : (core : Core D) × (core.store ≡ m.store.now) × IsHeld disk core × (final ≡ studio_of disk core)
  -- ONE RUN of the plain array editor, by the script, which is the actor 0, the recorder and the player. A refused
  -- entry leaves the editor's state as it was and takes no number. One that a device broke off may use up ids of
  -- blocks, and an export may then leave a part of its sound. The exit status is said in Call (EndsAs).
  pub run : Run start ((track ++ pin) ++ entries) final
  -- The run PIECE BY PIECE. Each entry of pieces that was carried out becomes an entry for each of its pieces, answered
  -- Done, and all others stay. From the same studio this run leads to the same one.
  pub piece_by_piece : Run start (pieces_apart ((track ++ pin) ++ entries)) final
  pub makers : Each (λ e. (is_by 0 e || (is_by end.recorder e || is_by end.player e)) ≡ true) entries
  pub apart : (0 ≢ end.recorder) × (0 ≢ end.player) × (end.recorder ≢ end.player)
  pub asked : (is_asked end.recording ≡ m.records) × (is_asked end.playback ≡ m.plays)
  -- Over the script's LINES, in order, each with its answer: all lines of what was read; after a limit or a fault of
  -- the script those that were whole, and after one of the output those up to the answer that broke off. A line outside
  -- the grammar, or one without memory or a turn, has an answer and no entry. The numbers begin with those of the
  -- opening.
  pub read : m.script.left.before ≡ preceded end.read m.script.left.now
  pub carried : IsCut end.stop end.read end.lines m.script.left.now
  pub lines : Answered (last_number start.state.commit (track ++ pin))
      (last_number start.state.commit (track ++ pin)) end.lines answers entries
  -- The sounds follow the lines, each by its part of the entries, and those after the parts are by others. A line
  -- `bounce` stands in the run where its pin does, and leaves the mix of the project that was current there.
  pub parts : List (List Entry)
  pub later : List Entry
  pub parted : entries ≡ flat_map (λ (es : List Entry). es) parts ++ later
  pub later_is : entries_by 0 later ≡ []
  pub sounds : SoundsFollow start (track ++ pin) end.lines answers parts m.sounds.before m.sounds.now
  -- And the recorded PIECES, after a track of their own: the first chunks of what was read of the microphone, up to its
  -- end, its fault or its limit, all of them unless one was refused. Each is one commit; an entry has one piece, or
  -- several that follow one another. The tag is the commit number of that track; all pieces bear it, so they are one
  -- point of undo. The recorder frees what they replaced. Lines of the script may change or undo them as any sound. A
  -- turn makes one entry; no turn is left after 2^62 entries.
  pub track_is : MakesSide (Line Track)
      (λ tag r. (tag ≡ last_number start.state.commit track) × (is_refusal r ≡ false)) end.recording track
  pub pieces : RecordsSide (length ((track ++ pin) ++ entries) ≡ COUNTER_LIMIT) end.recording
      start.state.next_track m.mic end.record_line m.piece_commits (entries_by end.recorder entries)
  -- The ANSWERS printed, and the last lines. After a fault of the output it is a part from the front: up to within the
  -- answer to the last line if the fault stopped the script, and else all answers and a part of the last lines.
  pub printed : PrintsFrom m.out
      (flat_map text_of answers ++ last_text end.record_line end.play_line m.last_commit)
  pub broke : end.stop ≡ stop.OutFault → BreaksOff m.out.written.before m.out.written.now answers
  pub answered : (end.stop ≡ stop.OutFault → ⊥) → PrintsThen m.out (flat_map text_of answers)
      (last_text end.record_line end.play_line m.last_commit)
  pub stopped_for : IsStoppedFor end.stop m.script.faults m.out.faults
  -- What was PLAYED is a prefix of the mix that the pin shows. The pin is made after the recording's track and before
  -- all other entries, so it has neither pieces nor what lines change.
  pub pin_is : MakesSide Pin (λ number r. r ≡ reply.Pinned number) end.playback pin
  pub played : PlaysSide (length ((track ++ pin) ++ entries) ≡ COUNTER_LIMIT) end.playback
      (λ number mix. pin_frames start.rate start.state (track ++ pin) number ≡ Some mix)
      m.speaker end.play_line (entries_by end.player entries)
  -- the NUMBERS of the run: the first and the last, and those of the script's commits and of the recorder's, each once
  pub first : m.first_commit ≡ start.state.commit
  pub last : (m.last_commit ≡ final.state.commit)
      × (m.last_commit ≡ last_number m.first_commit ((track ++ pin) ++ entries))
  pub record_is : m.record_commit ≡ side_number end.recording
  pub script_numbers : m.script_commits ≡ numbers_by 0 (last_number m.first_commit (track ++ pin)) entries
  pub piece_numbers : m.piece_commits ≡ numbers_by end.recorder (last_number m.first_commit (track ++ pin)) entries
  -- WHEREVER THE DISK STOPS, each image that it could not leave before has the project after some of the first entries.
  -- The one in flight counts as the last.
  pub any_moment : EachSince disk m.store.before m.store.now (λ c.
      disk.may_leave m.store.before (disk.clock m.store.before) c
      ⊎ KeepsPrefix start ((track ++ pin) ++ entries) c)
  -- At the end it has the project after all entries. Where the disk stopped the studio, the entry broken off may be in
  -- flight. A disk that stops is one whose calls fail from some call on, and this record is about every disk, so about
  -- each of those too. So what a stop leaves holds every entry that was answered before it. No field times the output
  -- against the disk: an answer printed before its commit is on the disk would break `broken` on the disk that fails
  -- from the next call on, since that entry was answered Done and is not the one in flight.
  pub going : final.stopped ≡ None → EachNow disk m.store.now (λ c. Keeps c (shown final))
  pub broken : IsSome final.stopped
      → EachNow disk m.store.now (λ c. Keeps c (shown final) ⊎ StopsInFlight start ((track ++ pin) ++ entries) c)
  -- Files that are neither a journal's nor a block's stay as they are, and no entry found a damaged file.
  pub foreign : LeavesForeign (disk.reads m.store.before) (disk.reads m.store.now)
  pub whole : Each (λ e. IfErr (result_of e.reply) IsUnharmed) ((track ++ pin) ++ entries)
  -- The exit STATUS is 4 if the count of faults of a device rose, and only if one did, or stands at its type's end.
  pub failed : AnyOf (λ c. c.before < c.now) (fault_counts disk m) → m.status ≡ 4
  pub status : m.status ≡ 4 → AnyOf (λ c. Rose c.before c.now) (fault_counts disk m)
  -- WHERE NEITHER THE DISK NOR THE VAULT FAILED the studio goes on, no entry is refused for the disk, and none of the
  -- script is answered DiskFault, VaultFault, Damaged or Stopped
  pub served : IsCalm start final → (Rose m.vault_faults.before m.vault_faults.now → ⊥)
      → (final.stopped ≡ None) × AreServed ((track ++ pin) ++ entries)
      × Each (λ e. IfErr (result_of e.reply) IsOfNoDevice) (entries_by 0 entries)
  -- no turn was left, for a line, the recording or the playback, only after as many entries as there are turns
  pub turns : TellSpent answers
      ⊎ (IsSomeAnd end.record_line (λ line. line.end ≡ rec.Refused spent)
      ⊎ IsSomeAnd end.play_line (λ line. line.end ≡ play.Refused spent))
      → length ((track ++ pin) ++ entries) ≡ COUNTER_LIMIT
