-- A run on an honest disk keeps the promise.
use Rattle.session_run.proofs.Common.{◌≡◌, ◌≢◌, inl, inr, ⊎_elim, ◌∙◌, refl, sym, ap, subst, ℕ, List, ◌++◌, length}
use Rattle.session_run.proofs.Common.{Some, true, IfErr, Run, result_of, Entry, Files, Ghosts, Each, Each-left}
use Rattle.session_run.proofs.Common.{Each-right, Core, KeepsPrefix, LeavesForeign, IsHeld, studio_of, IsHonest, change}
use Rattle.session_run.proofs.Common.{each_own, DeedsAsk, HadTurn, IsUnharmed, Leads, StopsInFlight, any_seat, by_seat}
use Rattle.session_run.proofs.Common.{deeds_of, numbers_of, Deed, entries_of, number_after, pin_frames, IsMixOf}
use Rattle.session_run.proofs.Common.{AllTell, AreTold, origin, all_told, entries_append, leads, each_append, IsSession}
use Rattle.session_run.proofs.Common.{Kinds, piece_numbers, last_text, met_of, Answered, last_number, numbers_by}
use Rattle.session_run.proofs.Common.{pieces_apart, play_line, record_line, OpensTo, Job, lent_of, Met, Promise, RunsOn}
use Rattle.session_run.proofs.Common.{PlaysSide, RecordsSide, SoundsFollow, input, output}
use Rattle.session_run.proofs.EntryLemmas.{IsPlain, entries_as, entries_length, last_as, numbers_as}
use Rattle.session_run.proofs.PrintedLemmas.{answered_all, broke, printed}
use Rattle.session_run.proofs.PromiseLemmas.{each_maker, each_reply, plain_deeds, stopped_for}
use Rattle.session_run.proofs.SessionLemmas.{found_spent, quiet, recorded}
use Rattle.session_run.proofs.SideEntries.{pin_each, pin_side, track_each, track_side}
use Rattle.session_run.proofs.{SurviveLemmas.Survives, SurviveLemmas.opened_keeps, SurviveLemmas.survives}
use Rattle.session_run.proofs.{AnsweredLemmas.answered, ApartLemmas.all_tagged, ApartLemmas.deeds_apart}
use Rattle.session_run.proofs.{FourLemmas.out_stays, StatusLemmas.Counted, SeatEntries.plays_side}
use Rattle.session_run.proofs.{SeatEntries.records_side, SoundLemmas.SoundsTo, SoundLemmas.sounds_to}
use Rattle.pcm_base.specs.{declared.limits.TheConstants.COUNTER_LIMIT, Outside.Sounds}
use Rattle.desk_session.specs.{Sessions.place_behind, Sides.side_number}
use Rattle.session_run.specs.Promise.{Ended}

module _ {D V M P : Type 0} (k : Kinds D V M P) (ask : DeedsAsk k.disk k.vaults) (store : D)
    (start final : Core D) (j : Job V M P)
    (opens : OpensTo k.disk store start) (ran : RunsOn k (change start final) j) (honest : IsHonest k.disk store)
    (told : AllTell k.vaults) (status : ℕ) where
  abbrev disk : Ghosts D
  disk = k.disk

  abbrev s : IsSession k start final (lent_of j.ports ran.mid) ran.out
  s = ran.session

  abbrev n : ℕ
  n = start.commit_number

  abbrev track : List Deed
  track = s.made.track_own

  abbrev pin : List Deed
  pin = s.made.pin_own

  abbrev rest : List Deed
  rest = s.made.rest

  held : IsHeld disk start
  held = opens.held honest

  tell : AreTold k.vaults s.deeds
  tell = all_told k.vaults s.deeds told

  led : Leads (origin disk k.vaults start) final s.deeds
  led = leads (origin disk k.vaults start) final s.deeds s.stands

  split : s.deeds ≡ (track ++ pin) ++ rest
  split = s.made.split ∙ ap (λ (l : List Deed). l ++ rest) s.made.opening_is

  abbrev opening_entries : List Entry
  opening_entries = entries_of track ++ entries_of pin

  entries_are : entries_of s.deeds ≡ opening_entries ++ entries_of rest
  entries_are = ap entries_of split ∙ (entries_append (track ++ pin) rest
      ∙ ap (λ (l : List Entry). l ++ entries_of rest) (entries_append track pin))

  plain : Each IsPlain s.deeds
  plain = plain_deeds disk k.vaults start s.deeds final s.stands.chain told held

  plain_all : Each IsPlain ((track ++ pin) ++ rest)
  plain_all = subst (λ (l : List Deed). Each IsPlain l) split plain

  plain_opening : Each IsPlain (track ++ pin)
  plain_opening = Each-left IsPlain (track ++ pin) rest plain_all

  plain_rest : Each IsPlain rest
  plain_rest = Each-right IsPlain (track ++ pin) rest plain_all

  plain_by : (seat : ℕ) → Each IsPlain (deeds_of (by_seat seat) rest)
  plain_by seat = each_own IsPlain (by_seat seat) rest plain_rest

  -- the commit number after the opening
  opened_number : last_number n opening_entries ≡ number_after n s.made.opening
  opened_number = sym (ap (last_number n) (entries_append track pin))
      ∙ (last_as n (track ++ pin) plain_opening ∙ sym (ap (number_after n) s.made.opening_is))

  by_first : Each (λ d. d.actor ≡ 0) s.made.opening
  by_first = subst (λ (l : List Deed). Each (λ d. d.actor ≡ 0) l) (sym s.made.opening_is)
      (each_append (λ d. d.actor ≡ 0) track pin
      (track_each (λ d. d.actor ≡ 0) s.spent ran.out.opened.recording track (λ what. refl) s.made.track_is)
      (pin_each (λ d. d.actor ≡ 0) s.spent ran.out.opened.pin pin (λ what. refl) s.made.pin_is))

  apart_recorder : 0 ≢ s.made.seats.recorder
  apart_recorder is = s.made.apart.script_recorder (s.made.script_seat ∙ is)

  apart_player : 0 ≢ s.made.seats.player
  apart_player is = s.made.apart.script_player (s.made.script_seat ∙ is)

  abbrev ended : Ended
  ended = record {
    stop = ran.out.told.stop;
    read = s.scripted.read;
    lines = s.scripted.lines;
    recording = ran.out.opened.recording;
    playback = ran.out.opened.pin;
    recorder = s.made.seats.recorder;
    player = s.made.seats.player;
    record_line = record_line start.next_track ran.out.opened.recording ran.out.kept;
    play_line = play_line ran.out.opened.pin ran.out.heard;
  }

  abbrev pub met : Met D
  met = met_of k (record { store = store; ports = j.ports }) j.beside.records j.beside.plays (record {
    status = status;
    opened = true;
    store = final.store;
    mic = j.ports.mic.now;
    speaker = j.ports.speaker.now;
    first_commit = n;
    last_commit = final.commit_number;
    record_commit = side_number ran.out.opened.recording;
    script_commits = ran.out.told.commits;
    piece_commits = piece_numbers ran.out.kept;
  })

  abbrev images : Survives disk store (change start final) s.deeds
  images = survives disk k.vaults ask store start final s.deeds opens s.stands honest told

  -- the list of entries, in its parts
  abbrev all_entries : List Entry
  all_entries = opening_entries ++ entries_of rest

  had_all : Each HadTurn ((track ++ pin) ++ rest)
  had_all = subst (λ (l : List Deed). Each HadTurn l) split (led.turns tell held)

  had_track : Each HadTurn track
  had_track = Each-left HadTurn track pin (Each-left HadTurn (track ++ pin) rest had_all)

  had_pin : Each HadTurn pin
  had_pin = Each-right HadTurn track pin (Each-left HadTurn (track ++ pin) rest had_all)

  had_split : Each HadTurn (s.made.opening ++ rest)
  had_split = subst (λ (l : List Deed). Each HadTurn l) s.made.split (led.turns tell held)

  length_is : length s.deeds ≡ length all_entries
  length_is = sym (entries_length s.deeds) ∙ ap length entries_are

  no_turn : s.spent ≡ true → length all_entries ≡ COUNTER_LIMIT
  no_turn is = sym length_is ∙ s.turns is

  lines : Answered (last_number n opening_entries) (last_number n opening_entries) s.scripted.lines s.scripted.answers
      (entries_of rest)
  lines = subst (λ (m : ℕ). Answered m m s.scripted.lines s.scripted.answers (entries_of rest)) (sym opened_number)
      (answered s.scripted.lines s.scripted.answers
      (place_behind n start.rate s.made.opening s.scripted.used_up (k.vaults.tells j.ports.vault.before)
      (k.vaults.holds j.ports.vault.before) (k.vaults.fault_count j.ports.vault.before))
      s.scripted.last s.scripted.later rest s.scripted.line_by_line (record {
        script = refl;
        seen = sym s.scripted.seen;
        by_others = s.scripted.by_others;
        plain = plain_rest;
      }))

  -- the sounds, from line to line
  sounds_are : SoundsTo (entries_of rest) (λ parts. SoundsFollow (studio_of disk start) (entries_of s.made.opening)
      s.scripted.lines s.scripted.answers parts (k.vaults.holds j.ports.vault.before) s.scripted.last.sounds)
  sounds_are = sounds_to disk k.vaults start final s.deeds s.stands told held s.scripted.lines s.scripted.last
      s.scripted.answers
      (place_behind n start.rate s.made.opening s.scripted.used_up (k.vaults.tells j.ports.vault.before)
      (k.vaults.holds j.ports.vault.before) (k.vaults.fault_count j.ports.vault.before))
      rest s.scripted.line_by_line refl refl (told j.ports.vault.before) s.made.split s.scripted.later
      (sym (s.made.split ∙ s.scripted.seen)) s.scripted.by_others

  opening_is : entries_of s.made.opening ≡ opening_entries
  opening_is = ap entries_of s.made.opening_is ∙ entries_append track pin

  sounds_follow : SoundsFollow (studio_of disk start) opening_entries s.scripted.lines s.scripted.answers
      sounds_are.parts (k.vaults.holds j.ports.vault.before) (k.vaults.holds j.ports.vault.now)
  sounds_follow = subst (λ (es : List Entry). SoundsFollow (studio_of disk start) es s.scripted.lines
      s.scripted.answers sounds_are.parts (k.vaults.holds j.ports.vault.before) (k.vaults.holds j.ports.vault.now)) opening_is
      (subst (λ (z : Sounds). SoundsFollow (studio_of disk start) (entries_of s.made.opening) s.scripted.lines
      s.scripted.answers sounds_are.parts (k.vaults.holds j.ports.vault.before) z) s.scripted.ends.0 sounds_are.follows)

  had_rest : Each HadTurn rest
  had_rest = Each-right HadTurn (track ++ pin) rest had_all

  -- no entry found a damaged file
  unharmed : Each (λ e. IfErr (result_of e.reply) IsUnharmed) all_entries
  unharmed = subst (λ (l : List Entry). Each (λ e. IfErr (result_of e.reply) IsUnharmed) l) entries_are
      (each_reply (λ c. IsUnharmed) s.deeds (led.whole tell held) plain)

  -- files that no studio changes
  foreign : LeavesForeign (disk.reads store) (disk.reads final.store)
  foreign = subst (λ (files : Files). LeavesForeign files (disk.reads final.store)) opens.looks.reads
      ((ask start final s.deeds s.stands).reads held.tells)

  pub promised : Counted disk met → Promise disk met
  promised counted = record {
    start = studio_of disk start;
    final = studio_of disk final;
    track = entries_of track;
    pin = entries_of pin;
    entries = entries_of rest;
    answers = s.scripted.answers;
    end = ended;
    began = (start, opens, refl);
    opened = opened_keeps disk store start opens honest;
    new = (
      opens.fresh.stopped,
      ap (λ (c : _). (studio_of disk (record start { clipboard = c })).state.clipboard) opens.fresh.clipboard,
      opens.fresh.next_pin,
    );
    faults_before = (opens.looks.cause.same_read_faults, opens.looks.cause.same_change_faults);
    faults_now = (refl, refl);
    holds = (final, refl, led.held tell held, refl);
    run = subst (λ (l : List Entry). Run (studio_of disk start) l (studio_of disk final)) entries_are
        (led.run tell held);
    piece_by_piece = subst
        (λ (l : List Entry). Run (studio_of disk start) (pieces_apart l) (studio_of disk final)) entries_are
        (deeds_apart disk k.vaults start s.deeds final s.stands.chain told held s.stands.began
        (all_tagged s.spent n start.next_track ran.out.opened s.deeds s.numbers.opening_rises s.made));
    makers = each_maker s.made.seats s.made.script_seat rest s.made.all;
    apart = (
      apart_recorder,
      apart_player,
      s.made.apart.recorder_player,
    );
    asked = (
      ran.asked.0,
      ran.asked.1,
    );
    read = s.scripted.bytes;
    carried = s.scripted.cut;
    lines = lines;
    parts = sounds_are.parts;
    later = sounds_are.later;
    parted = sounds_are.parted;
    later_is = sounds_are.later_is;
    sounds = sounds_follow;
    track_is = track_side s.spent n ran.out.opened.recording track pin s.made.track_is
        (ap (numbers_of any_seat n) (sym s.made.opening_is) ∙ s.opening_numbers)
        (Each-left IsPlain track pin plain_opening);
    pieces = subst (λ (l : List Entry). RecordsSide (length all_entries ≡ COUNTER_LIMIT) ran.out.opened.recording
        start.next_track (input k.mics j.ports.mic) ended.record_line (piece_numbers ran.out.kept) l)
        (sym (entries_as s.made.seats.recorder rest))
        (records_side s.made.seats.recorder n s.made.opening rest apart_recorder by_first
        (plain_by s.made.seats.recorder) k.mics j.ports.mic start.next_track (length all_entries ≡ COUNTER_LIMIT)
        s.spent no_turn ran.out.opened.recording ran.out.kept (recorded k start final j ran) s.made.pieces);
    printed = printed ran.out.told.stop j.ports.streams.source.faults j.ports.streams.sink.written.before ran.mid
        j.ports.streams.sink.written.now j.ports.streams.sink.faults.before ran.faults
        j.ports.streams.sink.faults.now s.scripted.answers
        (last_text ended.record_line ended.play_line final.commit_number) s.scripted.written ran.cause ran.ended;
    broke = broke ran.out.told.stop j.ports.streams.sink.written.before ran.mid j.ports.streams.sink.written.now
        ran.faults j.ports.streams.sink.faults.now s.scripted.answers
        (last_text ended.record_line ended.play_line final.commit_number) s.scripted.written ran.ended;
    answered = answered_all j.ports.streams.sink.written.before ran.mid j.ports.streams.sink.written.now
        j.ports.streams.sink.faults.before ran.faults j.ports.streams.sink.faults.now s.scripted.answers
        (last_text ended.record_line ended.play_line final.commit_number) ran.out.told.stop s.scripted.written
        ran.ended;
    stopped_for = stopped_for ran.out.told.stop j.ports.streams.source.faults j.ports.streams.sink.faults.before
        ran.faults j.ports.streams.sink.faults.now ran.cause
        (out_stays ran.out.told.stop _ (last_text ended.record_line ended.play_line final.commit_number) ran.ended);
    pin_is = pin_side s.spent ran.out.opened.pin pin s.made.pin_is;
    played = subst (λ (l : List Entry). PlaysSide (length all_entries ≡ COUNTER_LIMIT) ran.out.opened.pin
        (λ number mix. pin_frames start.rate (studio_of disk start).state opening_entries number ≡ Some mix)
        (output k.speakers j.ports.speaker) ended.play_line l)
        (sym (entries_as s.made.seats.player rest))
        (plays_side s.made.seats.player n s.made.opening rest apart_player by_first (plain_by s.made.seats.player)
        k.speakers j.ports.speaker (length all_entries ≡ COUNTER_LIMIT) s.spent no_turn
        (IsMixOf (origin disk k.vaults start) s.made.opening)
        (λ number mix. pin_frames start.rate (studio_of disk start).state opening_entries number ≡ Some mix)
        ran.out.opened.pin ran.out.heard s.played s.made.reads
        (λ number mix is. record {
          told = told;
          held = held;
          frames = ap (λ (l : List Entry). pin_frames start.rate (studio_of disk start).state l number)
              (ap entries_of s.made.opening_is ∙ entries_append track pin) ∙ is;
        }));
    first = refl;
    last = (
      refl,
      led.number ∙ (sym (last_as n s.deeds plain) ∙ ap (last_number n) entries_are),
    );
    record_is = refl;
    script_numbers = s.scripted.numbers
        ∙ (sym (numbers_as 0 (number_after n s.made.opening) rest plain_rest)
        ∙ ap (λ (m : ℕ). numbers_by 0 m (entries_of rest)) (sym opened_number));
    piece_numbers = s.pieces_are
        ∙ (sym (numbers_as s.made.seats.recorder (number_after n s.made.opening) rest plain_rest)
        ∙ ap (λ (m : ℕ). numbers_by s.made.seats.recorder m (entries_of rest)) (sym opened_number));
    any_moment = λ c since. ⊎_elim (λ there. inl there)
        (λ kept. inr (subst (λ (l : List Entry). KeepsPrefix (studio_of disk start) l c) entries_are kept))
        (images.any_moment c since);
    going = images.going;
    broken = λ some c now. ⊎_elim (λ kept. inl kept)
        (λ flight. inr (subst (λ (l : List Entry). StopsInFlight (studio_of disk start) l c) entries_are flight))
        (images.stopped some c now);
    foreign = foreign;
    whole = unharmed;
    failed = counted.failed;
    status = counted.status;
    served = quiet k start final j ran tell held opens.fresh.stopped plain (plain_by 0) all_entries entries_are;
    turns = λ any. no_turn (found_spent k start final j ran had_split had_track had_pin had_rest any);
  }
