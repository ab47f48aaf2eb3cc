-- What a recording and a playback did, in the words of the microphone and the speaker that were lent.
use Rattle.std.proofs.Common.{◌≡◌, ℕ, Bool, false, List, Option, take, sym, ap, ◌∙◌, subst}
use Rattle.pcm_base.specs.{Causes.Rose, Recordings.chunks_of, Recordings.frame_bytes}
use Rattle.edit_ports.specs.Told.{Course, Open, grown, preceded}
use Rattle.recorder_threads.specs.{Blocks.MicState, Captured.IsStoppedBy, Captured.mic_course}
use Rattle.recorder_threads.specs.{declared.microphone.MicEnd.MicEnd, Drained.Taken, Drained.Takes, Drained.taker_state}
use Rattle.session_threads.specs.{declared.play.Played.Played, declared.record.Recorded.Recorded, Played.Plays}
use Rattle.session_threads.specs.{Recorded.Records}
use Rattle.script_reader.specs.Change.{change}
use Rattle.desk_session.specs.Sounds.{IsPlayed, IsRecorded}
use Rattle.desk_session.specs.{declared.outcome.PlayOutcome.PlayOutcome, declared.outcome.RecordOutcome.RecordOutcome}
use Rattle.edit_ports.specs.declared.frames.FrameGiver as giver
use Rattle.edit_ports.specs.declared.pieces.PieceTaker as taker
use Rattle.edit_ports.specs.declared.sink.Sink as sink
use Rattle.edit_ports.specs.declared.source.Source as source

-- A microphone that was lent tells what is left of the one that lent it, and counts its faults, and what it follows that
-- one follows.
pub recorded_of : {L M T : Type 0} (mics : source.Ghosts M) (lent : source.Ghosts L) (takers : taker.Ghosts T)
    (inner : L → M) (left : (l : L) → lent.left l ≡ mics.left (inner l))
    (count : (l : L) → lent.fault_count l ≡ mics.fault_count (inner l))
    (goes : (l n : L) (course : Course) → lent.follows l course n → (first : M) → mics.follows first Open (inner l)
    → mics.follows first course (inner n))
    (m : L) (t : T) (d : Recorded L T) (k : RecordOutcome)
    → lent.follows m Open m → Records lent takers m t d → k.end ≡ d.end → k.numbers ≡ d.numbers → k.samples ≡ d.samples
    → k.refused ≡ d.refused
    → IsRecorded mics (change (inner m) (inner d.mic)) (change (takers.pieces t) (takers.pieces d.taker))
    (takers.refused d.taker) k
recorded_of mics lent takers inner left count goes m t d k self h end numbers samples refused = record {
  bytes = h.bytes;
  read = sym (left m) ∙ (h.read ∙ ap (preceded h.bytes) (left d.mic));
  stopped = subst (λ (z : MicEnd × MicState × MicState). IsStoppedBy z.0 h.bytes z.1 z.2) (λ i. (
    sym end i,
    record { left = left m i; fault_count = count m i },
    record { left = left d.mic i; fault_count = count d.mic i },
  )) h.stopped;
  goes = λ first is. subst (λ (e : MicEnd). mics.follows first (mic_course e) (inner d.mic)) (sym end)
      (goes m d.mic (mic_course d.end) (h.mic_goes m self) first is);
  takes = subst (λ (told : Taken). Takes (takers.pieces t) (taker_state takers d.taker) told (chunks_of h.bytes))
      (λ i. record { numbers = sym numbers i; samples = sym samples i; refused = sym refused i }) h.takes;
}

-- A speaker that was lent tells what was written to the one that lent it, and counts its faults, and what it follows that
-- one follows.
pub played_of : {G L P : Type 0} (speakers : sink.Ghosts P) (lent : sink.Ghosts L) (givers : giver.Ghosts G)
    (inner : L → P) (written : (l : L) → lent.written l ≡ speakers.written (inner l))
    (count : (l : L) → lent.fault_count l ≡ speakers.fault_count (inner l))
    (goes : (l n : L) (failed : Bool) → lent.follows l failed n → (first : P) → speakers.follows first false (inner l)
    → speakers.follows first failed (inner n))
    (v : G) (s : L) (d : Played G L) (k : PlayOutcome)
    → lent.follows s false s → (h : Plays givers lent v s d) → k.refused ≡ d.refused → k.frames ≡ d.frames
    → k.fault ≡ d.fault → IsPlayed speakers (change (inner s) (inner d.speaker)) (givers.shows v) h.place k
played_of speakers lent givers inner written count goes v s d k self h refused frames fault = record {
  frames = h.frames;
  first = h.first;
  whole = λ none. h.whole (sym refused ∙ none);
  given = λ why some. h.given why (sym refused ∙ some);
  writes = record {
    bytes = h.writes.bytes;
    within = h.writes.within;
    written = sym (written d.speaker)
        ∙ (h.writes.written ∙ ap (λ (o : Option (List ℕ)). grown o (take h.writes.bytes (frame_bytes h.frames)))
        (written s));
    count_is = frames ∙ h.writes.count_is;
    all = λ no. let a = h.writes.all (sym fault ∙ no) in (a.0, sym (count d.speaker) ∙ (a.1 ∙ count s));
    cause = λ yes. subst (λ (z : ℕ × ℕ). Rose z.0 z.1) (λ i. (count s i, count d.speaker i))
        (h.writes.cause (sym fault ∙ yes));
  };
  exact = frames ∙ h.exact;
  goes = λ first is. subst (λ (b : Bool). speakers.follows first b (inner d.speaker)) (sym fault)
      (goes s d.speaker d.fault (h.speaker_goes s self) first is);
}
