-- The recording and the playback of a session, by what was made for them.
use Rattle.session_run.proofs.Common.{◌≡◌, ◌≢◌, ◌∙◌, refl, sym, ap, ℕ, ◌==◌, if◌then◌else◌, Bool, true, false, List, []}
use Rattle.session_run.proofs.Common.{◌∷◌, ◌++◌, Option, Some, None, IsSomeAnd, Call, Frame, Each, Change, change, Deed}
use Rattle.session_run.proofs.Common.{entries_of, by_seat, deeds_of, Asks, pieces_by, RecorderAsks, same_seat}
use Rattle.session_run.proofs.Common.{each_append, Played, Recorded, piece_numbers, PlayOutcome, RecordOutcome, Side}
use Rattle.session_run.proofs.Common.{play_calls, record_calls, WhereMade, play_line, record_line, PlaysSide}
use Rattle.session_run.proofs.Common.{RecordsSide, input, output}
use Rattle.studio_seats.proofs.FreeingLemmas.{asked_own}
use Rattle.studio_seats.proofs.{MergeLemmas.deeds_append}
use Rattle.session_run.proofs.PieceEntries.{done_samples, own_samples}
use Rattle.session_run.proofs.{EntryLemmas.IsPlain, PlayLemmas.plays, RecordLemmas.records}
use Rattle.edit_ports.specs.declared.sink.Sink as sink
use Rattle.edit_ports.specs.declared.source.Source as source
use Rattle.desk_session.specs.declared.side.Side.TheVariants as side

-- a seat that may ask nothing has no deeds
none_own : (fits : Call → Type 0) → ((c : Call) → fits c → ⊥) → (seat : ℕ) (ds : List Deed) → Asks fits seat ds
    → deeds_of (by_seat seat) ds ≡ []
none_own fits never seat [] h = refl
none_own fits never seat (d ∷ ds) h = by (none_own fits never seat ds h.1) (seat == d.actor) refl
  where
    by : deeds_of (by_seat seat) ds ≡ [] → (b : Bool) → (seat == d.actor) ≡ b
        → (if b then d ∷ [] else []) ++ deeds_of (by_seat seat) ds ≡ []
    by later true is = absurd (never d.call (h.0 (sym (same_seat seat d.actor is))))
    by later false is = later

others_ask : (fits : Call → Type 0) (a seat : ℕ) (ds : List Deed) → a ≢ seat → Each (λ d. d.actor ≡ a) ds
    → Asks fits seat ds
others_ask fits a seat [] apart h = tt
others_ask fits a seat (d ∷ ds) apart h =
    ((λ is. absurd (apart (sym h.0 ∙ is))), others_ask fits a seat ds apart h.1)

-- the deeds of one seat are none of another's
others_own : (a seat : ℕ) (ds : List Deed) → a ≢ seat → Each (λ d. d.actor ≡ a) ds → deeds_of (by_seat seat) ds ≡ []
others_own a seat ds apart h = none_own (λ c. ⊥) (λ c x. x) seat ds (others_ask (λ c. ⊥) a seat ds apart h)

module _ (seat first : ℕ) (opening rest : List Deed) (apart : 0 ≢ seat)
    (by_first : Each (λ d. d.actor ≡ 0) opening) (plain : Each IsPlain (deeds_of (by_seat seat) rest)) where
  abbrev own : List Deed
  own = deeds_of (by_seat seat) rest

  own_is : deeds_of (by_seat seat) (opening ++ rest) ≡ own
  own_is = deeds_append (by_seat seat) opening rest
      ∙ ap (λ (l : List Deed). l ++ own) (others_own 0 seat opening apart by_first)

  -- the recording
  pub records_side : {M : Type 0} (mics : source.Ghosts M) (mic : Change M) (track : ℕ) (NoTurn : Type 0) (used : Bool)
      (none : used ≡ true → NoTurn) (made : Side) (kept : Option RecordOutcome)
      → WhereMade made (λ tag. IsSomeAnd kept
      (Recorded mics mic (change [] (pieces_by track tag seat first (opening ++ rest))) used own))
      ((kept ≡ None) × (mic.now ≡ mic.before))
      → Asks (record_calls track made) seat rest
      → RecordsSide NoTurn made track (input mics mic) (record_line track made kept) (piece_numbers kept)
      (entries_of own)
  records_side mics mic track NoTurn used none side.NotAsked kept h asks = (
    refl,
    ap piece_numbers h.0,
    ap entries_of (none_own (record_calls track side.NotAsked) (λ c x. x) seat rest asks),
    (ap mics.left h.1, ap mics.fault_count h.1),
  )
  records_side mics mic track NoTurn used none (side.Refused why) kept h asks = (
    refl,
    ap piece_numbers h.0,
    ap entries_of (none_own (record_calls track (side.Refused why)) (λ c x. x) seat rest asks),
    (ap mics.left h.1, ap mics.fault_count h.1),
  )
  records_side mics mic track NoTurn used none (side.Made tag) None h asks = absurd h
  records_side mics mic track NoTurn used none (side.Made tag) (Some kept) h asks = (
    _,
    refl,
    records mics mic track tag seat first (opening ++ rest) own NoTurn used none kept h
        (sym (own_samples track tag seat first (opening ++ rest)
        (each_append (λ d. d.actor ≡ seat → RecorderAsks track tag d.call) opening rest
        (others_ask (RecorderAsks track tag) 0 seat opening apart by_first) asks)
        ∙ ap done_samples own_is))
        (asked_own (RecorderAsks track tag) seat rest asks) plain,
  )

  -- the playback
  pub plays_side : {P : Type 0} (speakers : sink.Ghosts P) (speaker : Change P) (NoTurn : Type 0) (used : Bool)
      (none : used ≡ true → NoTurn) (shows : ℕ → List Frame → Type 0) (Shown : ℕ → List Frame → Type 0)
      (made : Side) (heard : Option PlayOutcome)
      → WhereMade made (λ pin. IsSomeAnd heard (Played speakers speaker (shows pin) pin used seat own))
      ((heard ≡ None) × (speaker.now ≡ speaker.before))
      → Asks (play_calls made) seat rest
      → ((pin : ℕ) (mix : List Frame) → Shown pin mix → shows pin mix)
      → PlaysSide NoTurn made Shown (output speakers speaker) (play_line made heard) (entries_of own)
  plays_side speakers speaker NoTurn used none shows Shown side.NotAsked heard h asks shown = (
    refl,
    ap entries_of (none_own (play_calls side.NotAsked) (λ c x. x) seat rest asks),
    (ap speakers.written h.1, ap speakers.fault_count h.1),
  )
  plays_side speakers speaker NoTurn used none shows Shown (side.Refused why) heard h asks shown = (
    refl,
    ap entries_of (none_own (play_calls (side.Refused why)) (λ c x. x) seat rest asks),
    (ap speakers.written h.1, ap speakers.fault_count h.1),
  )
  plays_side speakers speaker NoTurn used none shows Shown (side.Made pin) None h asks shown = absurd h
  plays_side speakers speaker NoTurn used none shows Shown (side.Made pin) (Some heard) h asks shown = (
    _,
    refl,
    λ mix is. plays speakers speaker (shows pin) pin seat NoTurn used none own heard mix h (shown pin mix is),
  )
