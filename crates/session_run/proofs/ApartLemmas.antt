-- A run in which each entry of pieces is taken apart into single pieces.
use Rattle.session_run.proofs.Common.{◌≡◌, inl, inr, ⊎_elim, ◌∙◌, refl, sym, ap, subst, ℕ, ◌+◌, ◌≤◌, ◌<◌, ℤ}
use Rattle.session_run.proofs.Common.{if◌then◌else◌, Bool, true, false, List, [], ◌∷◌, ◌++◌, length, drop, Result, Ok}
use Rattle.session_run.proofs.Common.{Err, arith, Answers, CarriesOut, Run, outside, Reply, Call, Entry, SoundMove}
use Rattle.session_run.proofs.Common.{Refusal, pieces_of, current, Ghosts, Each, reply_of, Core, IsHeld, IsStudio}
use Rattle.session_run.proofs.Common.{studio_of, Deed, entries_of, entry_of, by_seat, Asks, AllTell, Chain, each_append}
use Rattle.session_run.proofs.Common.{is_refusal, Made, NotAsked, Refused, Seats, is_by, play_calls, record_calls}
use Rattle.session_run.proofs.Common.{record_commits, Side, pieces_apart}
use Rattle.session_run.proofs.{PromiseLemmas.plain_of, SideEntries.track_each, SideEntries.pin_each}
use Rattle.std.proofs.lemmas.Bool.{cases_lt, eqb-true, or_cases}
use Rattle.std.proofs.lemmas.List.{at_drop_all, length-map}
use Rattle.std.specs.Prelude.{◌||◌}
use Rattle.pcm_base.specs.Refusals.{◌otherwise◌, call_tests, is_empty, length_limit, no_track}
use Rattle.pcm_base.specs.{declared.command.Call.TheVariants.Piece, Cells.Project, Cells.cells_at, Cells.tracks_from}
use Rattle.pcm_base.specs.{Run.stop_test, declared.refusal.Refusal.TheVariants.NoTrack, Counters.counter_tests}
use Rattle.pcm_base.specs.{Counters.record_test, History.IsHistory, State.first_point}
use Rattle.model_laws.specs.{Bounds.IsBoundedStudio, Laws.pieces_done}
use Rattle.model_laws.proofs.{OwnTests.both_passed, OwnTests.not_refused, Together.batch_pieces}
use Rattle.editor_state.proofs.Images.ModelBounds.{bounded}
use Rattle.studio_seats.specs.Merge.{Rises}
use Rattle.script_reader.specs.Calls.{IsOfScript}
use Rattle.desk_session.specs.{declared.opening.Opened.Opened, Sessions.IsMadeOf}
use Rattle.session_run.specs.Entries.{call_apart}
use Rattle.pcm_base.specs.declared.command.Call.TheVariants as call
use Rattle.pcm_base.specs.Studio as model
use Rattle.edit_ports.specs.declared.vault.Vault as vault

-- ---- runs

-- two runs, one after the other
run_append : (t mid u : model.Studio) (es more : List Entry) → Run t es mid → Run mid more u → Run t (es ++ more) u
run_append t mid u [] more same run = subst (λ (s : model.Studio). Run s more u) same run
run_append t mid u (e ∷ es) more (next, step, rest) run = (next, step, run_append next mid u es more rest run)

-- a call and what it was answered, as an entry
abbrev entry : ℕ → Call → SoundMove → Result Reply Refusal → Entry
entry actor c sound what = record { actor = actor; call = c; reply = reply_of what; sound = sound }

-- it is a run of its own
one : (t u : model.Studio) (actor : ℕ) (c : Call) (sound : SoundMove) (what : Result Reply Refusal)
    → Answers t c sound what u → Run t (entry actor c sound what ∷ []) u
one t u actor c sound what h =
    (u, subst (λ (w : Result Reply Refusal). Answers t c sound w u) (sym (plain_of t u c sound what h)) h, refl)

-- ---- a call of pieces

-- where a track is found, one of the points is current
there : (points : List (Project × ℕ)) (cursor track : ℕ)
    → is_empty (tracks_from track (first_point (drop cursor points))) ≡ false → cursor < length points
there points cursor track found = ⊎_elim (λ below. below)
    (λ past.
    let none : is_empty (tracks_from track (first_point (drop cursor points))) ≡ true =
    at_drop_all (λ l. is_empty (tracks_from track (first_point l))) points cursor past in
    absurd cc)
    (cases_lt cursor (length points))

-- so one is where a call of pieces was carried out
found : (t u : model.Studio) (track tag : ℕ) (samples : List ℤ) (sound : SoundMove) (r : Reply)
    → CarriesOut t (Piece track tag samples) sound r u → t.state.history.cursor < length t.state.history.points
found t u track tag samples sound r done =
    let out = outside t sound in
    let c = Piece track tag samples in
    let counters = counter_tests out t c done.blocks done.len in
    let own = call_tests out t.state c in
    let going = both_passed (stop_test t.stopped c) (own otherwise counters otherwise record_test done.len) done.passed in
    let passed = both_passed own (counters otherwise record_test done.len) going.1 in
    let here = both_passed (no_track t.state track)
    (length_limit ((length (cells_at track (current t.state)) + length samples) ∷ [])) passed.0 in
    there t.state.history.points t.state.history.cursor track
    (not_refused (is_empty (tracks_from track (current t.state))) (NoTrack track) here.0)

-- where a point is current of what a studio stands for, one is of its own
stands : {D : Type 0} (disk : Ghosts D) (s : Core D) → IsStudio disk s
    → (studio_of disk s).state.history.cursor < length (studio_of disk s).state.history.points → IsHistory s.history
stands disk s is current =
    let many : length (studio_of disk s).state.history.points ≡ length s.history.points =
    length-map s.history.points _ in
    record { current = omega (arith, current, many); few = is.few_points }

-- a call of pieces by its answer, its pieces taken apart
pieces : (t u : model.Studio) (actor track tag : ℕ) (samples : List ℤ) (sound : SoundMove)
    (what : Result Reply Refusal) → ((r : Reply) → CarriesOut t (Piece track tag samples) sound r u → IsBoundedStudio t)
    → 1 ≤ tag → Answers t (Piece track tag samples) sound what u
    → Run t (call_apart (Piece track tag samples) (entry actor (Piece track tag samples) sound what)) u
pieces t u actor track tag samples sound (Err why) bound numbered h =
    one t u actor (Piece track tag samples) sound (Err why) h
pieces t u actor track tag samples sound (Ok r) bound numbered h =
    subst (λ (b : Bool). Run t (if b then entry actor (Piece track tag samples) sound (Ok r) ∷ []
    else pieces_done actor track tag sound (pieces_of samples)) u)
    (sym (ap is_refusal h.answers)) (batch_pieces t u actor track tag samples sound r (bound r h) numbered h)

-- ---- deeds

-- the tag of a call of pieces is a commit number from 1 on
abbrev pub IsTagged : Call → Type 0
IsTagged (call.Piece track tag samples) = 1 ≤ tag
IsTagged _ = Unit {0}

module _ {D V : Type 0} (disk : Ghosts D) (vaults : vault.Ghosts V) where
  -- one deed
  by_call : (old new : Core D) (actor : ℕ) (c : Call) (sound : SoundMove) (what : Result Reply Refusal)
      → IsStudio disk old → IsTagged c → Answers (studio_of disk old) c sound what (studio_of disk new)
      → Run (studio_of disk old) (call_apart c (entry actor c sound what)) (studio_of disk new)
  by_call old new actor (call.Piece track tag samples) sound what is numbered h =
      pieces (studio_of disk old) (studio_of disk new) actor track tag samples sound what
      (λ r done. bounded disk old is (stands disk old is
      (found (studio_of disk old) (studio_of disk new) track tag samples sound r done)) _) numbered h
  by_call old new actor c sound what is numbered h =
      one (studio_of disk old) (studio_of disk new) actor c sound what h

  -- the deeds of a studio that a disk holds
  pub deeds_apart : (old : Core D) (ds : List Deed) (new : Core D) → Chain disk vaults old ds new → AllTell vaults
      → IsHeld disk old → IsStudio disk old → Each (λ d. IsTagged d.call) ds
      → Run (studio_of disk old) (pieces_apart (entries_of ds)) (studio_of disk new)
  deeds_apart old [] new chain told held is numbered = ap (studio_of disk) chain
  deeds_apart old (d ∷ ds) new (mid, does, chain) told held is numbered =
      let took = does.took (λ some. told) in
      run_append (studio_of disk old) (studio_of disk mid) (studio_of disk new) (call_apart d.call (entry_of d))
      (pieces_apart (entries_of ds)) (by_call old mid d.actor d.call d.sound d.what is numbered.0 (took.step held))
      (deeds_apart mid ds new chain told (took.held held) does.lasts.studio numbered.1)

-- ---- the tags of a session

-- a line, or a turn of a bounce
script_tagged : (c : Call) → IsOfScript c → IsTagged c
script_tagged c (inl line) = subst IsTagged (sym line.1) tt
script_tagged c (inr (inl pin)) = subst IsTagged (sym pin) tt
script_tagged c (inr (inr (number, inl (inl len)))) = subst IsTagged (sym len) tt
script_tagged c (inr (inr (number, inl (inr load)))) = subst IsTagged (sym load.2) tt
script_tagged c (inr (inr (number, inr release))) = subst IsTagged (sym release) tt

record_tagged : (n track : ℕ) (recording : Side) (c : Call) → Rises n (record_commits recording)
    → record_calls track recording c → IsTagged c
record_tagged n track NotAsked c rises h = absurd h
record_tagged n track (Refused why) c rises h = absurd h
record_tagged n track (Made tag) c rises (inl piece) = subst IsTagged (sym piece.1) (omega (arith, rises.0))
record_tagged n track (Made tag) c rises (inr reclaim) = subst IsTagged (sym reclaim) tt

play_tagged : (pin : Side) (c : Call) → play_calls pin c → IsTagged c
play_tagged NotAsked c h = absurd h
play_tagged (Refused why) c h = absurd h
play_tagged (Made number) c (inl read) = subst IsTagged (sym read.2) tt
play_tagged (Made number) c (inr release) = subst IsTagged (sym release) tt

rest_tagged : (seats : Seats) (n track : ℕ) (opened : Opened) (ds : List Deed) → seats.script ≡ 0
    → Rises n (record_commits opened.recording) → Each (λ d. is_by seats d ≡ true) ds → Asks IsOfScript 0 ds
    → Asks (record_calls track opened.recording) seats.recorder ds → Asks (play_calls opened.pin) seats.player ds
    → Each (λ d. IsTagged d.call) ds
rest_tagged seats n track opened [] first rises all lines pieces_ reads = tt
rest_tagged seats n track opened (d ∷ ds) first rises all lines pieces_ reads = (
  ⊎_elim
      (λ script. script_tagged d.call (lines.0 (sym (eqb-true seats.script d.actor script) ∙ first)))
      (λ other. ⊎_elim
      (λ recorder.
      record_tagged n track opened.recording d.call rises
      (pieces_.0 (sym (eqb-true seats.recorder d.actor recorder))))
      (λ player. play_tagged opened.pin d.call (reads.0 (sym (eqb-true seats.player d.actor player))))
      (or_cases (by_seat seats.recorder d) (by_seat seats.player d) other))
      (or_cases (by_seat seats.script d) (by_seat seats.recorder d || by_seat seats.player d) all.0),
  rest_tagged seats n track opened ds first rises all.1 lines.1 pieces_.1 reads.1,
)

-- each piece of a session has a tag from 1 on
pub all_tagged : (spent_ : Bool) (n track : ℕ) (opened : Opened) (deeds : List Deed)
    → Rises n (record_commits opened.recording) → IsMadeOf spent_ track opened deeds
    → Each (λ d. IsTagged d.call) deeds
all_tagged spent_ n track opened deeds rises made =
    subst (λ (l : List Deed). Each (λ d. IsTagged d.call) l) (sym made.split)
    (each_append (λ d. IsTagged d.call) made.opening made.rest
    (subst (λ (l : List Deed). Each (λ d. IsTagged d.call) l) (sym made.opening_is)
    (each_append (λ d. IsTagged d.call) made.track_own made.pin_own
    (track_each (λ d. IsTagged d.call) spent_ opened.recording made.track_own (λ what. tt) made.track_is)
    (pin_each (λ d. IsTagged d.call) spent_ opened.pin made.pin_own (λ what. tt) made.pin_is)))
    (rest_tagged made.seats n track opened made.rest made.script_seat rises made.all made.lines made.pieces made.reads))
