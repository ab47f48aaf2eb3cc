-- A playback, by the entries of its actor.
use Rattle.session_run.proofs.Common.{◌≡◌, ◌⊎◌, inl, inr, ◌∙◌, refl, sym, ap, ℕ, ◌+◌, ◌*◌, ◌≤◌, Bool, true, false, List}
use Rattle.session_run.proofs.Common.{[], ◌∷◌, ◌++◌, length, take, drop, Option, Some, None, Result, arith}
use Rattle.session_run.proofs.Common.{length-append, take-append-le, flat_map-append, Reply, Unpin, Entry, Refusal}
use Rattle.session_run.proofs.Common.{Frame, Rose, frame_bytes, grown, reply_of, reads_to, Change, EndReads, Deed}
use Rattle.session_run.proofs.Common.{entries_of, entry_of, entries_append, PlayOutcome, OwnDeed, Played, output}
use Rattle.std.proofs.lemmas.List.{take-append-drop}
use Rattle.pcm_base.specs.{Recordings.bytes_of_frame}
use Rattle.pcm_base.proofs.ListFacts.{length_frames}
use Rattle.studio_seats.specs.Reads.{AreFullReads, IsShortRead}
use Rattle.session_run.specs.Sides.{AreReads, IsRead, IsRelease, Plays, ReadsEnd}
use Rattle.session_run.specs.{Last.play_end}
use Rattle.pcm_base.specs.declared.answer.Reply.TheVariants as reply
use Rattle.edit_ports.specs.declared.sink.Sink as sink
use Rattle.script_text.specs.declared.last.PlayEnd.TheVariants as play

-- reads that gave all that they asked for
are_reads : (pin from to : ℕ) (ds : List Deed) → AreFullReads pin from to ds → AreReads pin from to (entries_of ds)
are_reads pin from to [] h = h
are_reads pin from to (d ∷ ds) h =
    (h.0, h.1, h.2, ap reply_of h.3, are_reads pin (from + length h.0) to ds h.4)

-- a read that gave fewer
short_read : (pin place : ℕ) (last : List Deed) (d : Deed) → last ≡ d ∷ [] → (r : IsShortRead pin place d)
    → IsRead pin place r.count (reply.Frames r.frames) (entries_of last)
short_read pin place last d is r = record {
  entry = entry_of d;
  are = ap entries_of is;
  asked = r.few;
  call_is = r.call_is;
  reply_is = ap reply_of r.what_is;
}

-- what ended them
reads_end : (pin place at : ℕ) (used fault : Bool) (refused : Option Refusal) (last : List Deed)
    → EndReads used pin place refused (reads_to refused at) last
    → ReadsEnd pin place (play_end refused fault) (entries_of last)
reads_end pin place at used true None last (none, d, is, r) =
    (r.count, r.frames, r.short, short_read pin place last d is r)
reads_end pin place at used false None last (none, d, is, r) =
    (r.count, r.frames, r.short, short_read pin place last d is r)
reads_end pin place at used fault (Some why) last (there, other, some, inl (d, is, r)) =
    let same : other ≡ why = cc in inl (
      r.count,
      record {
        entry = entry_of d;
        are = ap entries_of is;
        asked = r.few;
        call_is = r.call_is;
        reply_is = ap reply_of r.what_is ∙ ap (λ (w : Refusal). reply.Refused w) same;
      },
    )
reads_end pin place at used fault (Some why) last (there, other, some, inr h) =
    let same : why ≡ other = cc in inr (ap entries_of h.0, same ∙ h.1)

-- a read that was refused began where the others had come
refused_at : (pin place at : ℕ) (used : Bool) (refused : Option Refusal) (why : Refusal) (last : List Deed)
    → refused ≡ Some why → EndReads used pin place refused (reads_to refused at) last → at ≡ place
refused_at pin place at used None why last is h = cc
refused_at pin place at used (Some other) why last is h = h.0

-- the pin is released by one call, or by none where no turn was left
release : (NoTurn : Type 0) (used : Bool) (none : used ≡ true → NoTurn) (seat pin : ℕ) (what : Result Reply Refusal)
    (own : List Deed) → OwnDeed used seat (Unpin pin) what own → IsRelease NoTurn pin (entries_of own)
release NoTurn used none seat pin what own (inl is) = inl (_, ap entries_of is, refl)
release NoTurn used none seat pin what own (inr h) = inr (ap entries_of h.1, none h.2)

-- the first bytes of the first frames are the first bytes of all frames
first_bytes : (all frames : List Frame) (n : ℕ) → frames ≡ take (length frames) all → n ≤ length (frame_bytes frames)
    → (take n (frame_bytes frames) ≡ take n (frame_bytes all)) × (n ≤ length (frame_bytes all))
first_bytes all frames n is within =
    let whole : frame_bytes all ≡ frame_bytes frames ++ frame_bytes (drop (length frames) all) =
    ap frame_bytes (sym (take-append-drop (length frames) all)
    ∙ ap (λ (l : List Frame). l ++ drop (length frames) all) (sym is))
    ∙ flat_map-append bytes_of_frame frames (drop (length frames) all) in
    let len : length (frame_bytes all)
    ≡ length (frame_bytes frames) + length (frame_bytes (drop (length frames) all)) =
    ap length whole ∙ length-append (frame_bytes frames) (frame_bytes (drop (length frames) all)) in (
      sym (ap (take n) whole
          ∙ take-append-le n (frame_bytes frames) (frame_bytes (drop (length frames) all)) within),
      omega (arith, len, within),
    )

unrefused : (refused : Option Refusal) (fault : Bool) → play_end refused fault ≡ play.Whole
    → (refused ≡ None) × (fault ≡ false)
unrefused None false is = (refl, refl)
unrefused None true is = cc
unrefused (Some why) fault is = cc

failed : (refused : Option Refusal) (fault : Bool) → play_end refused fault ≡ play.Fault → fault ≡ true
failed None true is = refl
failed None false is = cc
failed (Some why) fault is = cc

pub play_refusal : (refused : Option Refusal) (fault : Bool) (why : Refusal)
    → play_end refused fault ≡ play.Refused why → refused ≡ Some why
play_refusal (Some other) fault why is = cc
play_refusal None true why is = cc
play_refusal None false why is = cc

-- all frames were written, or the speaker failed
all_written : (fault : Bool) (A B : Type 0) → (fault ≡ false → A) → (fault ≡ true → B) → A ⊎ B
all_written false A B all rose = inl (all refl)
all_written true A B all rose = inr (rose refl)

-- the line of a playback, and the entries of its actor
pub plays : {P : Type 0} (speakers : sink.Ghosts P) (speaker : Change P) (shows : List Frame → Type 0)
    (pin seat : ℕ) (NoTurn : Type 0) (used : Bool) (none : used ≡ true → NoTurn) (own : List Deed) (heard : PlayOutcome)
    (mix : List Frame)
    → Played speakers speaker shows pin used seat own heard → shows mix
    → Plays NoTurn pin mix (output speakers speaker)
    (record { frames = heard.frames; end = play_end heard.refused heard.fault }) (entries_of own)
plays speakers speaker shows pin seat NoTurn used none own heard mix h shown =
    let w = h.is.writes in
    let p = h.in_order in
    let first = first_bytes mix h.is.frames w.bytes (h.is.first mix shown) w.within in
    record {
      bytes = w.bytes;
      within = first.1;
      written = w.written ∙ ap (grown (speakers.written speaker.before)) first.0;
      frames_are = h.is.exact;
      all = λ is.
          let no = unrefused heard.refused heard.fault is in
          let all = w.all no.1 in
          (all.0 ∙ ap (λ (l : List Frame). length (frame_bytes l)) (h.is.whole no.0 mix shown), all.1);
      fault = λ is. w.cause (failed heard.refused heard.fault is);
      refused = λ why is.
          let some = play_refusal heard.refused heard.fault why is in
          let read : length h.is.frames ≡ p.place =
          h.is.given why some ∙ refused_at pin p.place h.place used heard.refused why p.last some p.ends in
          all_written heard.fault
          ((w.bytes ≡ 4 * p.place) × (speakers.fault_count speaker.now ≡ speakers.fault_count speaker.before))
          (Rose (speakers.fault_count speaker.before) (speakers.fault_count speaker.now))
          (λ no. (omega (arith, (w.all no).0, length_frames h.is.frames, read), (w.all no).1))
          (λ yes. w.cause yes);
      reads = entries_of p.full;
      place = p.place;
      last = entries_of p.last;
      release = entries_of h.release;
      own_is = ap entries_of (h.own_is ∙ ap (λ (l : List Deed). l ++ h.release) p.are)
          ∙ (entries_append (p.full ++ p.last) h.release
          ∙ ap (λ (l : List Entry). l ++ entries_of h.release) (entries_append p.full p.last));
      are = are_reads pin 0 p.place p.full p.reads;
      ended = reads_end pin p.place h.place used heard.fault heard.refused p.last p.ends;
      released = release NoTurn used none seat pin h.what h.release h.released;
    }
