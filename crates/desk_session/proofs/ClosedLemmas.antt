-- What a session did to a studio, once its desk is closed.
use Rattle.std.proofs.Common.{◌≡◌, inl, inr, ℕ, Bool, true, List, [], ◌∷◌, ◌++◌, length, Option, Some, None, refl, sym}
use Rattle.std.proofs.Common.{◌∙◌, ap, subst}
use Rattle.std.specs.Prelude.{IsSomeAnd}
use Rattle.pcm_base.specs.{declared.limits.TheConstants.COUNTER_LIMIT, declared.command.Call.Call, Counters.commits_of}
use Rattle.disk_model.specs.declared.store.Store.{Ghosts}
use Rattle.pin_turn.specs.{declared.view.View.View, Counts.Each, Counts.once_below, Counts.times, Rule.ByOthers}
use Rattle.pin_turn.proofs.Sums.{Each-left}
use Rattle.editor_state.specs.Core.{Core}
use Rattle.studio_seats.specs.Merge.{Commits, Numbers, any_seat, by_seat, deeds_of, numbers_of}
use Rattle.studio_seats.specs.{declared.deed.Deed.Deed, declared.held.Held.Held, Deeds.actor_of, Deeds.number_after}
use Rattle.studio_seats.specs.{Desks.IsFirst, Leads.HadTurn, Onward.Asks, Onward.places_of, Pieces.pieces_by}
use Rattle.studio_seats.specs.{Stands.StandsFor, Stands.origin, Faults.AllServed}
use Rattle.studio_seats.proofs.{FaultLemmas.desks_serve, Grown.leads, MergeLemmas.merged_numbers}
use Rattle.script_reader.specs.{Calls.IsOfScript, Served.IsUndisturbed, Served.TellsNoDevice, Added.Adds, Change.Change}
use Rattle.script_reader.specs.{Change.change, Place.Place, Place.place_of, Answering.AnswersLines}
use Rattle.script_reader.proofs.{ServedLemmas.scripts_serve, AddedLemmas.scripts_add, SpentLemmas.scripts_spend}
use Rattle.desk_session.specs.Opening.{IsOpening, Opens, PinDeed, TrackDeed, play_calls, record_calls, record_commits}
use Rattle.desk_session.specs.Sessions.{IsMadeOf, IsScripted, IsSession, place_behind}
use Rattle.desk_session.specs.Sounds.{AreRecorded, IsRecorded, Recorded, piece_numbers}
use Rattle.desk_session.specs.{declared.side.Side.Side, declared.outcome.RecordOutcome.RecordOutcome, Lent.Kinds}
use Rattle.desk_session.specs.{Lent.Lent, Lent.Outcome, Parts.NewPart, Sat.Sat, Sides.WhereMade}
use Rattle.desk_session.proofs.OpeningLemmas.{own_later, pin_later, track_later}
use Rattle.desk_session.proofs.RecordedLemmas.{no_numbers, piece_commits, pieces_in}
use Rattle.desk_session.proofs.EndLemmas.{reads_later, recorded_later}
use Rattle.desk_session.proofs.ListLemmas.{all_numbers, same_rest}
use Rattle.desk_session.proofs.{MakerLemmas.own_deeds, RejoinLemmas.own_mine, SideLemmas.some_as, SideLemmas.where_both}
use Rattle.edit_ports.specs.declared.source.Source as source
use Rattle.desk_session.specs.declared.side.Side.TheVariants as side
use Rattle.desk_session.proofs.ListLemmas as list

-- the player's calls are no commits
pub quiet : (pin : Side) (c : Call) → play_calls pin c → commits_of c ≡ 0
quiet side.NotAsked c h = absurd h
quiet (side.Made pin) c (inl (from, count, is)) = ap commits_of is
quiet (side.Made pin) c (inr is) = ap commits_of is
quiet (side.Refused why) c h = absurd h

module _ {D V M : Type 0} {disk : Ghosts D} (mics : source.Ghosts M) (mic : Change M) (first track : ℕ)
    (v w : View (Held D V disk) Deed) (spent : Bool) (own : List Deed) where
  abbrev IsRecording : Side → Option RecordOutcome → Type 0
  IsRecording made kept = WhereMade made
      (λ tag. IsSomeAnd kept
      (Recorded mics mic (change [] (pieces_by track tag w.number first w.seen)) spent own))
      ((kept ≡ None) × (mic.now ≡ mic.before))

  no_pieces : (fits : Call → Type 0) → ((c : Call) → fits c → ⊥) → (kept : Option RecordOutcome) (h : NewPart fits v w)
      → kept ≡ None
      → numbers_of (by_seat w.number) (number_after first v.seen) h.part.added ≡ piece_numbers kept
  no_pieces fits never kept h none =
      no_numbers fits never w.number (number_after first v.seen) h.part.added h.part.asks ∙ sym (ap piece_numbers none)

  -- the numbers of the recorder's seat are those of the pieces
  pieces_are : (made : Side) (kept : Option RecordOutcome) (h : NewPart (record_calls track made) v w)
      → IsRecording made kept → numbers_of (by_seat w.number) (number_after first v.seen) h.part.added ≡ piece_numbers kept
  pieces_are side.NotAsked kept h r = no_pieces (record_calls track side.NotAsked) (λ c k. k) kept h r.0
  pieces_are (side.Made tag) None h r = absurd r
  pieces_are (side.Made tag) (Some kept) h r =
      sym (piece_commits first track tag v w h r.told _ _ r.is.takes)
  pieces_are (side.Refused why) kept h r = no_pieces (record_calls track (side.Refused why)) (λ c k. k) kept h r.0

module _ {D V M P : Type 0} (k : Kinds D V M P) (start final : Core D) (mid : V) (lent : Lent V M P) (out : Outcome)
    (u v w : View (Held D V k.disk) Deed) (last : ℕ) (first : IsFirst u) (o : Opens start.commit_number out.opened u v)
    (is_last : last ≡ number_after start.commit_number v.seen) (same : mid ≡ lent.vault.before)
    (s : Sat k
    (record { start = start; track = start.next_track; last = last; seat = v; seat_now = w })
    (record lent { vault = change mid lent.vault.now }) out)
    (stands : StandsFor (origin k.disk k.vaults start) final w.seen)
    (counts : (k : ℕ) → times k w.mine ≡ once_below k (length w.seen))
    (turns : w.used_up ≡ true → length w.seen ≡ COUNTER_LIMIT) where
  open k use {disk, vaults}
  open out use {told, opened}
  open lent use {vault.{before, now as after}}

  abbrev n : ℕ
  n = start.commit_number

  is_zero : v.number ≡ 0
  is_zero = o.onward.number ∙ first.number

  own : v.mine ≡ places_of (by_seat v.number) 0 v.seen
  own = own_mine IsOpening u v o.onward (first.mine ∙ sym (ap (places_of (by_seat u.number) 0) first.seen))
      ∙ ap (λ (a : ℕ). places_of (by_seat a) 0 v.seen) (sym o.onward.number)

  added_is : v.seen ≡ o.onward.added
  added_is = o.onward.seen ∙ (λ i. first.seen i ++ o.onward.added)

  all_opening : Each (λ e. by_seat v.number e ≡ true) v.seen
  all_opening = list.all_opening s.seats own counts

  opening_is : v.seen ≡ o.track_own ++ o.pin_own
  opening_is = sym (own_deeds (by_seat v.number) v.seen all_opening)
      ∙ ((λ i. deeds_of (by_seat (o.onward.number i)) (added_is i)) ∙ o.own)

  opening_numbers : numbers_of any_seat n v.seen ≡ record_commits opened.recording
  opening_numbers = sym (all_numbers (by_seat v.number) n v.seen all_opening)
      ∙ ((λ i. numbers_of (by_seat (o.onward.number i)) (number_after n (sym first.seen i)) (added_is i)) ∙ o.numbers)

  abbrev rest : List Deed
  rest = list.rest s.seats own counts

  whole : w.seen ≡ v.seen ++ rest
  whole = list.whole s.seats own counts

  -- what the seat found before the script it still knows
  known_later : v.used_up ≡ true → w.used_up ≡ true
  known_later is = s.seats.script_spent (s.seats.by_script.used_up is)

  abbrev made : IsMadeOf w.used_up start.next_track opened w.seen
  made = record {
    seats = list.seats s.seats own counts;
    script_seat = is_zero;
    apart = list.apart s.seats own counts;
    opening = v.seen;
    rest = rest;
    split = whole;
    track_own = o.track_own;
    pin_own = o.pin_own;
    opening_is = opening_is;
    track_is = subst (λ (a : ℕ). TrackDeed w.used_up a opened.recording o.track_own) first.number
        (track_later known_later u.number opened.recording o.track_own o.track);
    pin_is = subst (λ (a : ℕ). PinDeed w.used_up a opened.pin o.pin_own) first.number
        (pin_later known_later u.number opened.pin o.pin_own o.pin);
    all = list.all_rest s.seats own counts;
    lines = subst (λ (a : ℕ). Asks IsOfScript a rest) is_zero (list.asks_lines s.seats own counts);
    pieces = list.asks_pieces s.seats own counts;
    reads = list.asks_reads s.seats own counts;
  }

  abbrev p : Place
  p = place_behind n start.rate v.seen v.used_up (vaults.tells before) (vaults.holds before) (vaults.fault_count before)

  abbrev q : Place
  q = place_of start s.script s.ran.0 told.commits (vaults.tells after) (vaults.holds after) (vaults.fault_count after)

  begins : place_of start v last [] (vaults.tells mid) (vaults.holds mid) (vaults.fault_count mid) ≡ p
  begins = λ i. record {
    seat = is_zero i;
    first = start.commit_number;
    rate = start.rate;
    seen = v.seen;
    last = is_last i;
    commits = [];
    used_up = v.used_up;
    tells = vaults.tells (same i);
    sounds = vaults.holds (same i);
    faults = vaults.fault_count (same i);
  }

  by_line : AnswersLines p s.ran.1.lines s.ran.1.printed.answers q
  by_line = subst (λ (z : Place). AnswersLines z s.ran.1.lines s.ran.1.printed.answers q) begins s.ran.1.printed.line_by_line

  adds : Adds p q
  adds = scripts_add s.ran.1.lines s.ran.1.printed.answers p q by_line

  more_is : adds.added ≡ s.seats.by_script.added
  more_is = same_rest v.seen adds.added s.seats.by_script.added (sym adds.seen ∙ s.seats.by_script.seen)

  own_is : deeds_of (by_seat 0) adds.added ≡ deeds_of (by_seat 0) rest
  own_is = ap (deeds_of (by_seat 0)) more_is
      ∙ subst (λ (a : ℕ). deeds_of (by_seat a) s.seats.by_script.added ≡ deeds_of (by_seat a) rest) is_zero
      (list.script_deeds s.seats own counts)

  script_numbers : told.commits ≡ numbers_of (by_seat 0) (number_after n v.seen) s.seats.by_script.added
  script_numbers = adds.numbers ∙ ap (numbers_of (by_seat 0) (number_after n v.seen)) more_is

  scripted : IsScripted vaults w.used_up (record { first = n; rate = start.rate; opening = v.seen; rest = rest }) lent
      told
  scripted = record {
    read = s.ran.1.read;
    lines = s.ran.1.lines;
    answers = s.ran.1.printed.answers;
    bytes = s.ran.1.bytes;
    cut = s.ran.1.cut;
    written = s.ran.1.printed.written;
    no = s.ran.1.printed.no;
    used_up = v.used_up;
    last = q;
    line_by_line = by_line;
    later = s.seats.more_script;
    seen = sym whole ∙ s.seats.script_is;
    by_others = subst (λ (a : ℕ). ByOthers actor_of (a ∷ []) s.seats.more_script) is_zero
        (list.made s.seats own counts).script;
    numbers = script_numbers
        ∙ subst (λ (a : ℕ). numbers_of (by_seat a) (number_after n v.seen) s.seats.by_script.added
        ≡ numbers_of (by_seat a) (number_after n v.seen) rest) is_zero
        (list.script_numbers s.seats own counts (number_after n v.seen));
    found = s.seats.script_spent;
    tell_spent = λ had told. s.seats.script_spent ((scripts_spend s.ran.1.lines s.ran.1.printed.answers p q by_line).found
        (Each-left HadTurn q.seen s.seats.more_script
        (subst (λ (l : List Deed). Each HadTurn l) (sym whole ∙ s.seats.script_is) had)) told);
    ends = (refl, refl, refl);
    line_deeds = adds.lines;
    own = sym own_is ∙ adds.own;
    sounds = adds.sounds;
  }

  piece_numbers_are : numbers_of (by_seat s.recorder.number) (number_after n v.seen) s.seats.by_recorder.part.added
      ≡ piece_numbers out.kept
  piece_numbers_are = pieces_are k.mics lent.mic n start.next_track v s.recorder s.recorder.used_up
      (deeds_of (by_seat s.recorder.number) s.seats.by_recorder.part.added) opened.recording out.kept
      s.seats.by_recorder s.recorded

  numbers : Numbers n final.commit_number
      record { opening = record_commits opened.recording; script = told.commits; pieces = piece_numbers out.kept }
  numbers =
      let merged = list.merged s.seats own counts n (quiet opened.pin) in
      let all = merged_numbers n w.seen _ _ merged in
      let script : numbers_of (by_seat v.number) (number_after n v.seen) s.seats.by_script.added ≡ told.commits =
      ap (λ (a : ℕ). numbers_of (by_seat a) (number_after n v.seen) s.seats.by_script.added) is_zero
      ∙ sym script_numbers in
      subst (λ (z : ℕ × Commits). Numbers n z.0 z.1) (λ i. (
        sym (leads (origin disk vaults start) final w.seen stands).number i,
        record { opening = opening_numbers i; script = script i; pieces = piece_numbers_are i },
      )) all

  served : IsUndisturbed (origin disk vaults start) final w.seen
      (change (vaults.fault_count before) (vaults.fault_count after))
      → AllServed final w.seen × Each TellsNoDevice (deeds_of (by_seat 0) rest)
  served h =
      let whole_is : StandsFor (origin disk vaults start) final (q.seen ++ s.seats.more_script) =
      subst (λ (l : List Deed). StandsFor (origin disk vaults start) final l) s.seats.script_is stands in
      let fair =
      scripts_serve disk vaults s.ran.1.lines s.ran.1.printed.answers p q start final s.seats.more_script by_line
      whole_is (subst (λ (l : List Deed). IsUndisturbed (origin disk vaults start) final l
      (change (vaults.fault_count before) (vaults.fault_count after))) s.seats.script_is h) in
      let is : fair.added ≡ s.seats.by_script.added =
      same_rest v.seen fair.added s.seats.by_script.added (sym fair.seen ∙ s.seats.by_script.seen) in
      let own : deeds_of (by_seat 0) fair.added ≡ deeds_of (by_seat 0) rest =
      ap (deeds_of (by_seat 0)) (is ∙ sym more_is) ∙ own_is in (
        desks_serve disk vaults start final w.seen stands h.told h.held h.going h.calm,
        subst (λ (l : List Deed). Each TellsNoDevice l) own fair.fair,
      )

  pub closed : IsSession k start final lent out
  closed = record {
    deeds = w.seen;
    stands = stands;
    spent = w.used_up;
    turns = turns;
    made = made;
    scripted = scripted;
    recorded = where_both opened.recording s.recorded
        (λ tag h. some_as out.kept h (λ kept is. record {
          told = is.told;
          is = subst (λ ps. IsRecorded k.mics lent.mic (change [] ps) is.told kept)
              (sym (pieces_in start.next_track tag s.recorder.number n w.seen s.recorder.seen s.seats.more_recorder
              s.seats.recorder_is (list.made s.seats own counts).recorder)) is.is;
          own_are = recorded_later s.seats.recorder_spent (subst
              (λ (l : List Deed). AreRecorded s.recorder.used_up is.told l) (list.recorder_deeds s.seats own counts)
              is.own_are);
        }))
        (λ h. h);
    opening_numbers = opening_numbers;
    pieces_are = sym piece_numbers_are ∙ list.recorder_numbers s.seats own counts (number_after n v.seen);
    played = where_both opened.pin s.played
        (λ pin h. some_as out.heard h (λ heard is. record {
          place = is.place;
          is = is.is;
          reads = is.reads;
          release = is.release;
          own_is = sym (list.player_deeds s.seats own counts) ∙ is.own_is;
          in_order = reads_later s.seats.player_spent is.in_order;
          what = is.what;
          released = own_later s.seats.player_spent is.released;
        }))
        (λ h. h);
    served = served;
    numbers = numbers;
  }
