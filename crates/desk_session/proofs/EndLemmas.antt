-- How the deeds of the recorder's and of the player's seat end.
use Rattle.std.proofs.Common.{◌≡◌, ⊎_elim, inl, inr, ℕ, Bool, true, List, ◌++◌, Option, None, refl, sym, ◌∙◌, ap, subst}
use Rattle.std.proofs.Common.{append_assoc}
use Rattle.pcm_base.specs.{declared.command.Call.Call, declared.command.Call.TheVariants.Unpin}
use Rattle.pcm_base.specs.{declared.refusal.Refusal.Refusal, declared.sound.Frame.Frame}
use Rattle.disk_model.specs.declared.store.Store.{Ghosts}
use Rattle.edit_ports.specs.Answers.{AtEnd, NextAt, Reading, RefusedAt}
use Rattle.player_threads.specs.Filled.{reads_to}
use Rattle.pin_turn.specs.declared.view.View.{View}
use Rattle.studio_seats.specs.Onward.{IsReadOf, Onward, worker}
use Rattle.studio_seats.specs.Reads.{EndReads, ReadsOn, ReadsTo}
use Rattle.studio_seats.specs.Recording.{RecorderAsks, RecordsOn, asks_piece, recorder}
use Rattle.studio_seats.specs.{declared.deed.Deed.Deed, declared.held.Held.Held, Merge.by_seat, Merge.deeds_of}
use Rattle.studio_seats.proofs.{MergeLemmas.deeds_append, WorkLemmas.ends_later}
use Rattle.script_reader.specs.Change.{Change}
use Rattle.desk_session.specs.Sounds.{AreRecorded, IsPlayed, Played}
use Rattle.desk_session.specs.{declared.outcome.PlayOutcome.PlayOutcome, Opening.LetsGo, Opening.OwnDeed, Parts.Part}
use Rattle.desk_session.proofs.ListLemmas.{same_rest}
use Rattle.edit_ports.specs.declared.sink.Sink as sink

-- a seat that found that no turn is left still knows
pub recorded_later : {a b : Bool} {told : Option Refusal} {ds : List Deed} → (a ≡ true → b ≡ true)
    → AreRecorded a told ds → AreRecorded b told ds
recorded_later {a} {b} {told} {ds} later h = record {
  ends = ends_later a b told (deeds_of asks_piece ds) later h.ends;
  freed = h.freed;
  freed_last = ⊎_elim (λ none. inl none) (λ used. inr (later used)) h.freed_last;
}

pub reads_later : {a b : Bool} {pin : ℕ} {refused : Option Refusal} {reading : Reading} {ds : List Deed}
    → (a ≡ true → b ≡ true) → ReadsTo a pin refused reading ds → ReadsTo b pin refused reading ds
reads_later {a} {b} {pin} {refused} {reading} later h = record {
  place = h.place;
  full = h.full;
  last = h.last;
  are = h.are;
  reads = h.reads;
  ends = by reading h.ends;
}
  where
    by : (reading : Reading) → EndReads a pin h.place refused reading h.last
        → EndReads b pin h.place refused reading h.last
    by (NextAt next) e = e
    by AtEnd e = e
    by (RefusedAt at) (there, why, is, inl e) = (there, why, is, inl e)
    by (RefusedAt at) (there, why, is, inr e) = (there, why, is, inr (e.0, e.1, later e.2))

module _ {D V : Type 0} {disk : Ghosts D} where
  -- what a part adds is all that its seat has seen more
  pub part_added : (fits : Call → Type 0) (v w : View (Held D V disk) Deed) (p : Part fits v w) (more : List Deed)
      → w.seen ≡ v.seen ++ more → p.added ≡ more
  part_added fits v w p more is = same_rest v.seen p.added more (sym p.seen ∙ is)

  -- what a seat that had been split off from v has seen
  pub went : (fits : Call → Type 0) (v o w : View (Held D V disk) Deed) → o.seen ≡ v.seen → (onward : Onward fits o w)
      → w.seen ≡ v.seen ++ onward.added
  went fits v o w same onward = onward.seen ∙ ap (λ (l : List Deed). l ++ onward.added) same

  -- all deeds of a recorder that had been split off from v
  pub recorded : (track tag : ℕ) (failed : Bool) (v o w : View (Held D V disk) Deed) (told : Option Refusal)
      → o.seen ≡ v.seen → RecordsOn track tag true failed (recorder o None 0) (recorder w told 0)
      → (other : Call → Type 0) → (p : Part other v w)
      → AreRecorded w.used_up told (deeds_of (by_seat w.number) p.added)
  recorded track tag failed v o w told same works other p =
      let more = works.onward.added in
      subst (λ (z : ℕ × List Deed). AreRecorded w.used_up told (deeds_of (by_seat z.0) z.1))
      (λ i. (
        sym works.onward.number i,
        sym (part_added other v w p more (went (RecorderAsks track tag) v o w same works.onward)) i,
      ))
      (record { ends = works.ends refl; freed = works.freed; freed_last = works.since })

  -- a player's seat, which then releases the pin
  module _ {P : Type 0} (speakers : sink.Ghosts P) (speaker : Change P) (shows : List Frame → Type 0)
      (pin first place : ℕ) (v o u w : View (Held D V disk) Deed) (heard : PlayOutcome) (same : o.seen ≡ v.seen)
      (reads : ReadsOn pin (reads_to heard.refused place) (worker o None) (worker u heard.refused))
      (lets : LetsGo first pin u w)
      (other : Call → Type 0) (p : Part other v w) (played : IsPlayed speakers speaker shows place heard)
    where
      abbrev before : List Deed
      before = reads.onward.added

      abbrev later : List Deed
      later = lets.calls.onward.added

      number : w.number ≡ u.number
      number = lets.calls.onward.number

      added : p.added ≡ before ++ later
      added = part_added other v w p (before ++ later) (lets.calls.onward.seen
          ∙ (ap (λ (l : List Deed). l ++ later) (went (IsReadOf pin) v o u same reads.onward)
          ∙ append_assoc v.seen before later))

      pub played_all : Played speakers speaker shows pin w.used_up w.number (deeds_of (by_seat w.number) p.added) heard
      played_all = record {
        place = place;
        is = played;
        reads = deeds_of (by_seat u.number) before;
        release = deeds_of (by_seat u.number) later;
        own_is = (λ i. deeds_of (by_seat (number i)) (added i)) ∙ deeds_append (by_seat u.number) before later;
        in_order = reads_later lets.calls.onward.used_up
            (subst (λ (n : ℕ). ReadsTo u.used_up pin heard.refused (reads_to heard.refused place)
            (deeds_of (by_seat n) before)) (sym reads.onward.number) (reads.reads refl));
        what = lets.what;
        released = subst (λ (n : ℕ). OwnDeed w.used_up n (Unpin pin) lets.what (deeds_of (by_seat u.number) later))
            (sym number) lets.calls.own;
      }
