-- A recording or a playback that found no turn left found so after as many as there are.
use Rattle.session_run.proofs.Common.{◌≡◌, ◌⊎◌, inl, inr, ap, ◌∙◌, subst, ℕ, ℤ, Bool, true, List, [], ◌∷◌, ◌++◌, Option}
use Rattle.session_run.proofs.Common.{Some, None, IsSomeAnd, Refusal, NoMemory, Frame, reply_of, reads_to, Each}
use Rattle.session_run.proofs.Common.{Each-left, Each-right, MicEnd, Change, Deed, spent, HadTurn, deeds_of, asks_piece}
use Rattle.session_run.proofs.Common.{EndsBy, EndReads, PlayOutcome, RecordOutcome, Side, PinDeed, TrackDeed, WhereMade}
use Rattle.session_run.proofs.Common.{Played, Recorded, play_line, record_end, record_line, each_own}
use Rattle.session_run.proofs.{PlayLemmas.play_refusal, SideEntries.pin_spent, SideEntries.track_spent}
use Rattle.edit_ports.specs.Answers.{RefusedAt}
use Rattle.studio_seats.specs.Reads.{ReadsTo}
use Rattle.pcm_base.specs.declared.answer.Reply.TheVariants as reply
use Rattle.edit_ports.specs.declared.sink.Sink as sink
use Rattle.edit_ports.specs.declared.source.Source as source
use Rattle.recorder_threads.specs.declared.microphone.MicEnd.TheVariants as mic_end
use Rattle.script_text.specs.declared.last.PlayEnd.TheVariants as play
use Rattle.script_text.specs.declared.last.RecordEnd.TheVariants as rec
use Rattle.desk_session.specs.declared.side.Side.TheVariants as side

pub record_refusal : (refused : Option Refusal) (end : MicEnd) (why : Refusal) → record_end refused end ≡ rec.Refused why
    → refused ≡ Some why
record_refusal (Some other) end why is = cc
record_refusal None mic_end.End why is = cc
record_refusal None mic_end.Fault why is = cc
record_refusal None mic_end.Limit why is = cc

-- no deed tells that no turn was left, so the seat knows it
ends_spent : (used : Bool) (own : List Deed) → EndsBy used (Some spent) own → Each HadTurn own → used ≡ true
ends_spent used own (inl h) had =
    absurd ((Each-right HadTurn h.done (h.last ∷ []) (subst (λ (l : List Deed). Each HadTurn l) h.are had)).0
    (ap reply_of h.refused))
ends_spent used own (inr h) had = h.found

-- nor does a read
reads_spent : (used : Bool) (pin at : ℕ) (ds : List Deed) → ReadsTo used pin (Some spent) (RefusedAt at) ds
    → Each HadTurn ds → used ≡ true
reads_spent used pin at ds h had = by h.ends
  where
    by : EndReads used pin h.place (Some spent) (RefusedAt at) h.last → used ≡ true
    by (there, why, is, inl (d, one, r)) =
        let same : why ≡ spent = cc in
        absurd ((Each-right HadTurn h.full (d ∷ []) (subst (λ (l : List Deed). Each HadTurn l)
        (h.are ∙ ap (λ (l : List Deed). h.full ++ l) one) had)).0
        (ap reply_of r.what_is ∙ ap (λ (w : Refusal). reply.Refused w) same))
    by (there, why, is, inr e) = e.2

pub recording_spent : {M : Type 0} (mics : source.Ghosts M) (mic : Change M)
    (pieces : ℕ → Change (List (List ℤ × ℕ))) (track : ℕ) (used : Bool) (made : Side)
    (kept : Option RecordOutcome) (opening own : List Deed) (else_ : Type 0)
    → WhereMade made (λ tag. IsSomeAnd kept (Recorded mics mic (pieces tag) used own)) else_
    → TrackDeed used 0 made opening → Each HadTurn opening → Each HadTurn own
    → IsSomeAnd (record_line track made kept) (λ line. line.end ≡ rec.Refused spent) → used ≡ true
recording_spent mics mic pieces track used side.NotAsked kept opening own else_ h opened had_opening had is = absurd is
recording_spent mics mic pieces track used (side.Refused why) kept opening own else_ h opened had_opening had is =
    let told : rec.Refused why ≡ rec.Refused spent = is in
    track_spent used (side.Refused why) opening opened had_opening (cc told)
recording_spent mics mic pieces track used (side.Made tag) None opening own else_ h opened had_opening had is = absurd h
recording_spent mics mic pieces track used (side.Made tag) (Some kept) opening own else_ h opened had_opening had is =
    by ((h.is.takes.some spent (record_refusal kept.refused kept.end spent is)).1)
  where
    by : (h.told ≡ Some spent) ⊎ ((spent ≡ NoMemory) × (h.told ≡ None)) → used ≡ true
    by (inl told) = ends_spent used (deeds_of asks_piece own)
        (subst (λ (r : Option Refusal). EndsBy used r (deeds_of asks_piece own)) told h.own_are.ends)
        (each_own HadTurn asks_piece own had)
    by (inr memory) = absurd (cc memory.0)

pub playback_spent : {P : Type 0} (speakers : sink.Ghosts P) (speaker : Change P)
    (shows : ℕ → List Frame → Type 0) (used : Bool) (player : ℕ) (made : Side)
    (heard : Option PlayOutcome) (opening own : List Deed) (else_ : Type 0)
    → WhereMade made (λ pin. IsSomeAnd heard (Played speakers speaker (shows pin) pin used player own)) else_
    → PinDeed used 0 made opening → Each HadTurn opening → Each HadTurn own
    → IsSomeAnd (play_line made heard) (λ line. line.end ≡ play.Refused spent) → used ≡ true
playback_spent speakers speaker shows used player side.NotAsked heard opening own else_ h opened had_opening had is = absurd is
playback_spent speakers speaker shows used player (side.Refused why) heard opening own else_ h opened had_opening had is =
    let told : play.Refused why ≡ play.Refused spent = is in
    pin_spent used (side.Refused why) opening opened had_opening (cc told)
playback_spent speakers speaker shows used player (side.Made pin) None opening own else_ h opened had_opening had is =
    absurd h
playback_spent speakers speaker shows used player (side.Made pin) (Some heard) opening own else_ h opened had_opening
    had is =
    reads_spent used pin h.place h.reads
    (subst (λ (r : Option Refusal). ReadsTo used pin r (reads_to r h.place) h.reads)
    (play_refusal heard.refused heard.fault spent is) h.in_order)
    (Each-left HadTurn h.reads h.release (subst (λ (l : List Deed). Each HadTurn l) h.own_is had))
