-- A recording, by the entries of its actor.
use Rattle.session_run.proofs.Common.{◌≡◌, ◌⊎◌, inl, inr, ⊎_elim, ◌∙◌, refl, sym, ap, subst, ℕ, ◌≤◌, ℤ, List, [], ◌∷◌}
use Rattle.session_run.proofs.Common.{◌++◌, Bool, true, length, take, Option, Some, None, arith, append-nil, none-some}
use Rattle.session_run.proofs.Common.{Refusal, NoMemory, reply_of, Each, Each-left, Each-right, MicEnd, mic_state}
use Rattle.session_run.proofs.Common.{IsStoppedBy, Change, change, AreDone, EndsBy, IsPieceOf, Deed, entries_of}
use Rattle.session_run.proofs.Common.{entry_of, deeds_of, pieces_by, RecorderAsks, asks_piece, entries_append}
use Rattle.session_run.proofs.Common.{RecordOutcome, Recorded, ArePieces, record_end, input, each_own}
use Rattle.session_run.proofs.FreedEntries.{done_pieces, fit_pieces, fit_reclaims, pieces_as}
use Rattle.session_run.proofs.PieceEntries.{are_pieces, done_samples, refused_samples, samples_in, zipped}
use Rattle.session_run.proofs.{EntryLemmas.IsPlain, SpentLemmas.record_refusal}
use Rattle.pcm_base.specs.Recordings.{chunks_of}
use Rattle.session_run.specs.{Sides.MicEnds, Sides.PieceRefused, Sides.Records, Last.mic_end}
use Rattle.pcm_base.specs.declared.answer.Reply.TheVariants as reply
use Rattle.edit_ports.specs.declared.source.Source as source
use Rattle.recorder_threads.specs.declared.microphone.MicEnd.TheVariants as mic_end
use Rattle.script_text.specs.declared.last.RecordEnd.TheVariants as rec

module _ {M : Type 0} (mics : source.Ghosts M) (mic : Change M) where
  -- what ended the microphone
  mic_ends : (end : MicEnd) (bytes : List ℕ) → IsStoppedBy end bytes (mic_state mics mic.before) (mic_state mics mic.now)
      → MicEnds (mic_end end) bytes (input mics mic)
  mic_ends mic_end.End bytes h = h
  mic_ends mic_end.Fault bytes h = h
  mic_ends mic_end.Limit bytes h = h

  ends : (refused : Option Refusal) (end : MicEnd) (bytes : List ℕ)
      → IsStoppedBy end bytes (mic_state mics mic.before) (mic_state mics mic.now)
      → MicEnds (record_end refused end) bytes (input mics mic)
  ends (Some why) mic_end.End bytes h = inl h
  ends (Some why) mic_end.Fault bytes h = inr (inl h)
  ends (Some why) mic_end.Limit bytes h = inr (inr h)
  ends None end bytes h = mic_ends end bytes h

-- a recording that does not end as refused was refused nothing
unrefused : (refused : Option Refusal) (end : MicEnd)
    → ((why : Refusal) → record_end refused end ≡ rec.Refused why → ⊥) → refused ≡ None
unrefused None end never = refl
unrefused (Some why) end never = absurd (never why refl)

-- the deeds of a recorder, up to the one that was refused
record Parts (track tag : ℕ) (told : Option Refusal) (ds : List Deed) : Type 0 where
  taken : List Deed
  last : List Deed
  are : ds ≡ taken ++ last
  done : AreDone taken
  samples : done_samples ds ≡ done_samples taken
  refused : (why : Refusal) → told ≡ Some why → PieceRefused track tag (rec.Refused why) (entries_of last)
  none : told ≡ None → last ≡ []

module _ (track tag : ℕ) where
  parts : (used : Bool) (told : Option Refusal) (ds : List Deed) → Each (λ d. IsPieceOf track tag d.call) ds
      → EndsBy used told ds → Parts track tag told ds
  parts used None ds fit h = record {
    taken = ds;
    last = [];
    are = sym (append-nil ds);
    done = h;
    samples = refl;
    refused = λ why is. absurd (none-some why is);
    none = λ is. refl;
  }
  parts used (Some why) ds fit (inl h) =
      let fits : Each (λ d. IsPieceOf track tag d.call) (h.last ∷ []) =
      Each-right (λ d. IsPieceOf track tag d.call) h.done (h.last ∷ [])
      (subst (λ (l : List Deed). Each (λ d. IsPieceOf track tag d.call) l) h.are fit) in
      record {
        taken = h.done;
        last = h.last ∷ [];
        are = h.are;
        done = h.each;
        samples = ap done_samples h.are ∙ refused_samples h.done h.last why h.refused;
        refused = λ other is. inl (
          fits.0.0,
          entry_of h.last,
          refl,
          fits.0.1,
          ap reply_of h.refused ∙ ap reply.Refused (let same : why ≡ other = cc is in same),
        );
        none = λ is. absurd (none-some why (sym is));
      }
  parts used (Some why) ds fit (inr h) = record {
    taken = ds;
    last = [];
    are = sym (append-nil ds);
    done = h.each;
    samples = refl;
    refused = λ other is. inr (refl, inl (let same : other ≡ why = cc is in same ∙ h.spent_is));
    none = λ is. absurd (none-some why (sym is));
  }

-- what refused the recording, by what the taker was refused
refusal : (track tag : ℕ) (kept : RecordOutcome) (told : Option Refusal) (ds : List Deed) (p : Parts track tag told ds)
    → (kept.refused ≡ None → told ≡ None)
    → ((why : Refusal) → kept.refused ≡ Some why → (told ≡ Some why) ⊎ ((why ≡ NoMemory) × (told ≡ None)))
    → PieceRefused track tag (record_end kept.refused kept.end) (entries_of p.last)
refusal track tag kept told ds p whole some = by kept.refused refl
  where
    quiet : (end : MicEnd) → told ≡ None → PieceRefused track tag (mic_end end) (entries_of p.last)
    quiet mic_end.End is = ap entries_of (p.none is)
    quiet mic_end.Fault is = ap entries_of (p.none is)
    quiet mic_end.Limit is = ap entries_of (p.none is)

    by : (refused : Option Refusal) → kept.refused ≡ refused
        → PieceRefused track tag (record_end refused kept.end) (entries_of p.last)
    by None is = quiet kept.end (whole is)
    by (Some why) is =
        ⊎_elim (λ t. p.refused why t) (λ t. inr (ap entries_of (p.none t.1), inr t.0)) (some why is)

-- the line of a recording, its numbers, and the entries of its actor
pub records : {M : Type 0} (mics : source.Ghosts M) (mic : Change M) (track tag seat first : ℕ) (deeds own : List Deed)
    (NoTurn : Type 0) (used : Bool) (none : used ≡ true → NoTurn) (kept : RecordOutcome)
    → Recorded mics mic (change [] (pieces_by track tag seat first deeds)) used own kept
    → done_samples own ≡ samples_in (pieces_by track tag seat first deeds)
    → Each (λ d. RecorderAsks track tag d.call) own → Each IsPlain own
    → Records NoTurn track tag (input mics mic) (record {
      track = track;
      pieces = length kept.numbers;
      samples = kept.samples;
      end = record_end kept.refused kept.end;
    }) kept.numbers (entries_of own)
records mics mic track tag seat first deeds own NoTurn used none kept r same asks plain =
    let chunks = chunks_of r.is.bytes in
    let asked : List Deed = deeds_of asks_piece own in
    let fit = fit_pieces track tag own asks in
    let p = parts track tag used r.told asked fit r.own_are.ends in
    let within = few kept.refused refl in
    let taken : done_samples p.taken ≡ take (length kept.numbers) chunks =
    sym p.samples ∙ (done_pieces track tag own asks ∙ same
    ∙ (ap samples_in r.is.takes.kept ∙ zipped chunks kept.numbers within)) in
    record {
      bytes = r.is.bytes;
      read = r.is.read;
      ended = ends mics mic kept.refused kept.end r.is.bytes r.is.stopped;
      within = within;
      all = λ never. (r.is.takes.all (unrefused kept.refused kept.end never)).0;
      fewer = λ why is. (r.is.takes.some why (record_refusal kept.refused kept.end why is)).0;
      taken = entries_of p.taken;
      last = entries_of p.last;
      own_is = pieces_as own ∙ (ap entries_of p.are ∙ entries_append p.taken p.last);
      pieces = subst (λ (l : List (List ℤ)). ArePieces track tag l (entries_of p.taken)) taken
          (are_pieces track tag p.taken
          (Each-left (λ d. IsPieceOf track tag d.call) p.taken p.last
          (subst (λ (l : List Deed). Each (λ d. IsPieceOf track tag d.call) l) p.are fit))
          p.done
          (Each-left IsPlain p.taken p.last (subst (λ (l : List Deed). Each IsPlain l) p.are
          (each_own IsPlain asks_piece own plain))));
      refused = refusal track tag kept r.told asked p (λ is. (r.is.takes.all is).1)
          (λ why is. (r.is.takes.some why is).1);
      reclaims = fit_reclaims track tag own asks;
      freed = r.own_are.freed;
      freed_last = ⊎_elim (λ nothing. inl nothing) (λ found. inr (none found)) r.own_are.freed_last;
      track_is = refl;
      pieces_are = refl;
      samples_are = r.is.takes.samples_is;
    }
  where
    few : (refused : Option Refusal) → kept.refused ≡ refused → length kept.numbers ≤ length (chunks_of r.is.bytes)
    few None is = let all = (r.is.takes.all is).0 in omega (arith, all)
    few (Some why) is = let some = (r.is.takes.some why is).0 in omega (arith, some)
