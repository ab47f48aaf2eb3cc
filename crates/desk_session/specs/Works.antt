-- What the threads of a session did, each by a seat of its own.
use Rattle.std.specs.Prelude.{◌≡◌, ℕ, ℤ, true, List, [], Option, None, IsSomeAnd, is_some}
use Rattle.pcm_base.specs.declared.refusal.Refusal.{Refusal}
use Rattle.disk_model.specs.declared.store.Store.{Ghosts}
use Rattle.player_threads.specs.Filled.{reads_to}
use Rattle.pin_turn.specs.declared.view.View.{View}
use Rattle.editor_state.specs.Core.{Core}
use Rattle.studio_seats.specs.{declared.deed.Deed.Deed, declared.held.Held.Held, Onward.Onward, Onward.worker}
use Rattle.studio_seats.specs.{Pieces.pieces_by, Reads.ReadsOn, Recording.RecordsOn, Recording.recorder, Shows.IsMixOf}
use Rattle.studio_seats.specs.{Stands.origin}
use Rattle.script_reader.specs.{Calls.IsOfScript, Change.Change, Change.change, Place.place_of, Progress.Ran}
use Rattle.script_reader.specs.{Progress.reached}
use Rattle.desk_session.specs.{declared.outcome.ScriptOutcome.ScriptOutcome, Lent.Kinds, Lent.Lent, Lent.Outcome}
use Rattle.desk_session.specs.{Sides.WhereMade, Sounds.IsPlayed, Sounds.IsRecorded}
use Rattle.edit_ports.specs.declared.vault.Vault as vault

-- The studio with which a desk began, the commit number that was told last before a script, and what the script's seat
-- knew before it and knows after it.
pub record Scripting (D V : Type 0) (disk : Ghosts D) : Type 0 where
  pub start : Core D
  pub last : ℕ
  pub seat : Change (View (Held D V disk) Deed)

-- a script ran, from the place of its seat before to that of its seat after
abbrev pub RanScript : {D V M P : Type 0} {disk : Ghosts D} → vault.Ghosts V → Scripting D V disk → Lent V M P
    → ScriptOutcome → Type 0
RanScript vaults s lent told = (told_last : ℕ) × Ran told.stop
    (reached (record {
      place = place_of s.start s.seat.before s.last [] (vaults.tells lent.vault.before)
          (vaults.holds lent.vault.before) (vaults.fault_count lent.vault.before);
      written = lent.written.before;
    })
    (place_of s.start s.seat.now told_last told.commits (vaults.tells lent.vault.now)
    (vaults.holds lent.vault.now) (vaults.fault_count lent.vault.now))
    lent.written.now told.refused)
    lent.left

-- The studio with which a desk began, the track of the recording, the commit number that was told last before the
-- script, and what the seats of script, recorder and player knew before and know after.
pub record Working (D V : Type 0) (disk : Ghosts D) : Type 0 where
  pub start : Core D
  pub track : ℕ
  pub last : ℕ
  pub script : Change (View (Held D V disk) Deed)
  pub recorder : Change (View (Held D V disk) Deed)
  pub player : Change (View (Held D V disk) Deed)

abbrev pub working : {D V : Type 0} {disk : Ghosts D} → Core D → (track last : ℕ)
    → (script recorder player : Change (View (Held D V disk) Deed)) → Working D V disk
working start track last script recorder player = record {
  start = start;
  track = track;
  last = last;
  script = script;
  recorder = recorder;
  player = player;
}

-- the pieces of a recording, as a seat has seen them
abbrev pub pieces_seen : {D V : Type 0} {disk : Ghosts D} → Working D V disk → ℕ → View (Held D V disk) Deed
    → List (List ℤ × ℕ)
pieces_seen s tag v = pieces_by s.track tag v.number s.start.commit_number v.seen

-- The lines were run, and beside them a recording where there is a track and a playback where there is a pin.
pub record Works {D V M P : Type 0} {disk : Ghosts D} (k : Kinds D V M P) (s : Working D V disk) (lent : Lent V M P)
    (out : Outcome)
    : Type 0 where
  pub goes : Onward IsOfScript s.script.before s.script.now
  pub ran : RanScript k.vaults (record { start = s.start; last = s.last; seat = s.script }) lent out.told
  pub records : WhereMade out.opened.recording
      (λ tag. (told : Option Refusal)
      × RecordsOn s.track tag true (is_some told) (recorder s.recorder.before None 0) (recorder s.recorder.now told 0)
      × IsSomeAnd out.kept (IsRecorded k.mics lent.mic
      (change (pieces_seen s tag s.recorder.before) (pieces_seen s tag s.recorder.now)) told))
      ((s.recorder.now ≡ s.recorder.before) × (out.kept ≡ None) × (lent.mic.now ≡ lent.mic.before))
  pub plays : WhereMade out.opened.pin
      (λ pin. IsSomeAnd out.heard (λ heard. (place : ℕ)
      × ReadsOn pin (reads_to heard.refused place) (worker s.player.before None) (worker s.player.now heard.refused)
      × IsPlayed k.speakers lent.speaker (IsMixOf (origin k.disk k.vaults s.start) s.player.before.seen pin) place
      heard))
      ((s.player.now ≡ s.player.before) × (out.heard ≡ None) × (lent.speaker.now ≡ lent.speaker.before))
