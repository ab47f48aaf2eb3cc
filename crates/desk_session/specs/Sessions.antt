-- A session at a desk: a script, and beside it a recording and a playback, where they were asked for.
use Rattle.std.specs.Prelude.{◌≡◌, ℕ, Bool, true, IsTrue, List, [], ◌∷◌, ◌++◌, length, None, IsSomeAnd}
use Rattle.std.specs.List.{flat_map, list_any}
use Rattle.pcm_base.specs.{declared.limits.TheConstants.COUNTER_LIMIT, declared.answer.Answer.Answer, Outside.Sounds}
use Rattle.edit_ports.specs.Told.{preceded}
use Rattle.pin_turn.specs.{Counts.Each, Rule.ByOthers}
use Rattle.editor_state.specs.Core.{Core}
use Rattle.studio_seats.specs.Merge.{Numbers, any_seat, by_seat, deeds_of, numbers_of}
use Rattle.studio_seats.specs.{declared.deed.Deed.Deed, Deeds.actor_of, Deeds.number_after, Faults.AllServed}
use Rattle.studio_seats.specs.{Leads.HadTurn, Onward.Asks, Pieces.pieces_by, Shows.IsMixOf, Stands.StandsFor}
use Rattle.studio_seats.specs.{Stands.origin}
use Rattle.script_reader.specs.Progress.{IsCut, WritesAnswers, outcome_of, says_no}
use Rattle.script_reader.specs.{Added.FollowsLines, Calls.IsOfScript, Change.change, Place.Place, Served.IsUndisturbed}
use Rattle.script_reader.specs.{Served.TellsNoDevice, Answering.AnswersLines, Spent.TellSpent}
use Rattle.desk_session.specs.Opening.{PinDeed, TrackDeed, play_calls, record_calls, record_commits}
use Rattle.desk_session.specs.{declared.opening.Opened.Opened, declared.outcome.ScriptOutcome.ScriptOutcome, Lent.Kinds}
use Rattle.desk_session.specs.{Lent.Lent, Lent.Outcome, Makers.Apart, Makers.Seats, Makers.is_by, Sides.WhereMade}
use Rattle.desk_session.specs.{Sounds.Played, Sounds.Recorded, Sounds.piece_numbers}
use Rattle.edit_ports.specs.declared.vault.Vault as vault

-- The deeds of a session, by their makers: the first seat made the opening, and then the lines, and the turns of those
-- that bounce. A second one made the pieces of the recording, and reclaims, and a third one read the pin and released
-- it. Where one of them made no turn, none was left.
pub record IsMadeOf (spent : Bool) (track : ℕ) (opened : Opened) (deeds : List Deed) : Type 0 where
  pub seats : Seats
  pub script_seat : seats.script ≡ 0
  pub apart : Apart seats
  pub opening : List Deed
  pub rest : List Deed
  pub split : deeds ≡ opening ++ rest
  pub track_own : List Deed
  pub pin_own : List Deed
  pub opening_is : opening ≡ track_own ++ pin_own
  pub track_is : TrackDeed spent 0 opened.recording track_own
  pub pin_is : PinDeed spent 0 opened.pin pin_own
  pub all : Each (λ d. is_by seats d ≡ true) rest
  pub lines : Asks IsOfScript 0 rest
  pub pieces : Asks (record_calls track opened.recording) seats.recorder rest
  pub reads : Asks (play_calls opened.pin) seats.player rest

-- where a script begins that has seen the opening
abbrev pub place_behind : ℕ → ℕ → List Deed → Bool → Bool → Sounds → ℕ → Place
place_behind first rate opening used_up tells sounds faults = record {
  seat = 0;
  first = first;
  rate = rate;
  seen = opening;
  last = number_after first opening;
  commits = [];
  used_up = used_up;
  tells = tells;
  sounds = sounds;
  faults = faults;
}

-- The commit number with which a session began, the project's frames in a second, the deeds of its opening, and those
-- after them.
pub record Split : Type 0 where
  pub first : ℕ
  pub rate : ℕ
  pub opening : List Deed
  pub rest : List Deed

-- What a script did, of the deeds of a session: the bytes that it read are these lines, their answers were written, and
-- the deeds of its seat are those of its lines, as `line_by_line` says from its first place to its last.
pub record IsScripted {V M P : Type 0} (vaults : vault.Ghosts V) (spent : Bool) (deeds : Split) (lent : Lent V M P)
    (told : ScriptOutcome) : Type 0 where
  pub read : List ℕ
  pub lines : List (List ℕ)
  pub answers : List Answer
  pub bytes : lent.left.before ≡ preceded read lent.left.now
  pub cut : IsCut told.stop read lines lent.left.now
  pub written : WritesAnswers (outcome_of told.stop) lent.written.before lent.written.now answers
  pub no : told.refused ≡ list_any says_no answers
  -- each answer tells the commit number after its turn, and where it took none the one that was told last
  pub used_up : Bool
  pub last : Place
  pub line_by_line : AnswersLines (place_behind deeds.first deeds.rate deeds.opening used_up (vaults.tells lent.vault.before)
      (vaults.holds lent.vault.before) (vaults.fault_count lent.vault.before)) lines answers last
  -- what its seat saw at last begins the list, and after that nothing is by it
  pub later : List Deed
  pub seen : deeds.opening ++ deeds.rest ≡ last.seen ++ later
  pub by_others : ByOthers actor_of (0 ∷ []) later
  pub numbers : told.commits ≡ numbers_of (by_seat 0) (number_after deeds.first deeds.opening) deeds.rest
  -- where the seat found that no turn is left, none was; and if no deed was refused so, an answer is Spent only then
  pub found : last.used_up ≡ true → spent ≡ true
  pub tell_spent : Each HadTurn (deeds.opening ++ deeds.rest) → TellSpent answers → spent ≡ true
  -- the last place is that of the vault as it came back, and of the numbers that were returned
  pub ends : (last.sounds ≡ vaults.holds lent.vault.now) × (last.faults ≡ vaults.fault_count lent.vault.now)
      × (last.commits ≡ told.commits)
  -- the sounds of a vault that reports its bytes follow its lines, each by its own deeds
  pub line_deeds : List (List Deed)
  pub own : deeds_of (by_seat 0) deeds.rest ≡ flat_map (λ (ds : List Deed). ds) line_deeds
  pub sounds : IsTrue (vaults.tells lent.vault.before) → FollowsLines deeds.rate (vaults.holds lent.vault.before)
      line_deeds (vaults.holds lent.vault.now)

-- A session took the studio from `start` to `final`, which stands for its deeds, in one list: a run of the model.
pub record IsSession {D V M P : Type 0} (k : Kinds D V M P) (start final : Core D) (lent : Lent V M P) (out : Outcome)
    : Type 0 where
  pub deeds : List Deed
  pub stands : StandsFor (origin k.disk k.vaults start) final deeds
  -- whether a seat found that no turn was left: then as many were made as there are
  pub spent : Bool
  pub turns : spent ≡ true → length deeds ≡ COUNTER_LIMIT
  pub made : IsMadeOf spent start.next_track out.opened deeds
  pub scripted : IsScripted k.vaults spent (record {
    first = start.commit_number;
    rate = start.rate;
    opening = made.opening;
    rest = made.rest;
  }) lent out.told
  -- a recording that was asked for and has its track; else the microphone is as it was
  pub recorded : WhereMade out.opened.recording (λ tag. IsSomeAnd out.kept (Recorded k.mics lent.mic
      (change [] (pieces_by start.next_track tag made.seats.recorder start.commit_number deeds)) spent
      (deeds_of (by_seat made.seats.recorder) made.rest)))
      ((out.kept ≡ None) × (lent.mic.now ≡ lent.mic.before))
  -- a playback that was asked for and has its pin, of the mix of the project that was current where it was made; else
  -- the speaker is as it was
  pub played : WhereMade out.opened.pin (λ pin. IsSomeAnd out.heard (Played k.speakers lent.speaker
      (IsMixOf (origin k.disk k.vaults start) made.opening pin) pin spent made.seats.player
      (deeds_of (by_seat made.seats.player) made.rest)))
      ((out.heard ≡ None) × (lent.speaker.now ≡ lent.speaker.before))
  -- Where no device failed no deed tells of one, and the studio goes on.
  pub served : IsUndisturbed (origin k.disk k.vaults start) final deeds
      (change (k.vaults.fault_count lent.vault.before) (k.vaults.fault_count lent.vault.now))
      → AllServed final deeds × Each TellsNoDevice (deeds_of (by_seat 0) made.rest)
  -- the numbers of the opening are the new track's, and those of the recorder's commits are the pieces'
  pub opening_numbers : numbers_of any_seat start.commit_number made.opening ≡ record_commits out.opened.recording
  pub pieces_are : piece_numbers out.kept
      ≡ numbers_of (by_seat made.seats.recorder) (number_after start.commit_number made.opening) made.rest
  -- the numbers of the new track, of the script and of the pieces are together all after the first up to the last,
  -- each once, and each list rises
  pub numbers : Numbers start.commit_number final.commit_number (record {
    opening = record_commits out.opened.recording;
    script = out.told.commits;
    pieces = piece_numbers out.kept;
  })
