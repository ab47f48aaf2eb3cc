-- The deeds of a bounce as entries of a run.
use Rattle.session_run.proofs.Common.{◌≡◌, inl, inr, ◌∙◌, refl, sym, ap, subst, ℕ, ◌+◌, Bool, true, false, List, []}
use Rattle.session_run.proofs.Common.{◌∷◌, ◌++◌, length, Result, Ok, Err, Wrote, Reply, Call, Entry, Refusal, Each}
use Rattle.session_run.proofs.Common.{reply_of, as_reply, Deed, entries_of, number_after, entries_append, number_append}
use Rattle.session_run.proofs.Common.{each_append, AfterPin, BounceDeeds, Place, batch, BounceEntries, BounceNumber}
use Rattle.session_run.proofs.Common.{last_number}
use Rattle.session_run.proofs.EntryLemmas.{IsPlain, last_as}
use Rattle.sound_bounce.specs.Bounces.{AreLoads, IsRefusedBy, LetsGo, LoadsAll, LoadsEnd, frames_by, may_let_go}
use Rattle.sound_bounce.specs.Bounces.{ReadsPin}
use Rattle.script_reader.specs.Place.{TellsBounce}
use Rattle.session_run.specs.Answered.{IsOfPin}

-- ---- each of its deeds after the pin's is of this pin

abbrev OfPin : ℕ → Deed → Type 0
OfPin pin d = IsOfPin pin d.call

loads_pin : (pin most from to : ℕ) (ds : List Deed) → AreLoads pin most from to ds → Each (OfPin pin) ds
loads_pin pin most from to [] h = tt
loads_pin pin most from to (d ∷ ds) h =
    (inr (inl (from, most, h.1)), loads_pin pin most (from + length (frames_by d.what)) to ds h.3)

gone_pin : (used_up : Bool) (pin : ℕ) (may : Bool) (ds : List Deed) → LetsGo used_up pin may ds → Each (OfPin pin) ds
gone_pin used_up pin false ds none = subst (λ (l : List Deed). Each (OfPin pin) l) (sym none) tt
gone_pin used_up pin true ds (inl (d, are, call, what)) =
    subst (λ (l : List Deed). Each (OfPin pin) l) (sym are) (inr (inr call), tt)
gone_pin used_up pin true ds (inr (none, found)) = subst (λ (l : List Deed). Each (OfPin pin) l) (sym none) tt

module _ {used_up : Bool} {pin : ℕ} where
  refused_pin : {c : Call} {why : Refusal} {ds : List Deed} → IsOfPin pin c → IsRefusedBy used_up c why ds
      → Each (OfPin pin) ds
  refused_pin of (inl (d, are, call, what)) =
      subst (λ (l : List Deed). Each (OfPin pin) l) (sym are) (subst (IsOfPin pin) (sym call) of, tt)
  refused_pin of (inr (none, is, found)) = subst (λ (l : List Deed). Each (OfPin pin) l) (sym none) tt

  all_pin : {most len : ℕ} {what : Result ℕ Refusal} {ds : List Deed} → LoadsAll used_up pin most len what ds
      → Each (OfPin pin) ds
  all_pin {most} {len} {what} h = subst (λ (l : List Deed). Each (OfPin pin) l) (sym h.are)
      (each_append (OfPin pin) h.loads h.last (loads_pin pin most 0 h.place h.loads h.reads) (by what h.ends))
    where
      by : (r : Result ℕ Refusal) → LoadsEnd used_up pin most len h.place r h.last → Each (OfPin pin) h.last
      by (Ok bytes) e = subst (λ (l : List Deed). Each (OfPin pin) l) (sym e.0) tt
      by (Err why) (inl e) = refused_pin (inr (inl (h.place, most, refl))) e
      by (Err why) (inr (is, none)) = subst (λ (l : List Deed). Each (OfPin pin) l) (sym none) tt

  reads_pin : (most : ℕ) (what : Result ℕ Refusal) (ds : List Deed) → ReadsPin used_up pin most what ds
      → Each (OfPin pin) ds
  reads_pin most what ds (inl (len, h)) =
      subst (λ (l : List Deed). Each (OfPin pin) l) (sym h.are) (inl h.length_is.0, all_pin h.loads)
  reads_pin most (Ok bytes) ds (inr h) = absurd h
  reads_pin most (Err why) ds (inr (inl h)) = refused_pin (inl refl) h
  reads_pin most (Err why) ds (inr (inr h)) = subst (λ (l : List Deed). Each (OfPin pin) l) (sym h.2) (inl h.3, tt)

  after_pin : {most : ℕ} {what : Result ℕ Refusal} {ds : List Deed} → AfterPin used_up pin most what ds
      → Each (OfPin pin) ds
  after_pin {most} {what} a = subst (λ (l : List Deed). Each (OfPin pin) l) (sym a.are)
      (each_append (OfPin pin) a.reads a.gone (reads_pin most what a.reads a.reads_are)
      (gone_pin used_up pin (may_let_go what) a.gone a.lets_go))

entries_pin : (pin : ℕ) (ds : List Deed) → Each (OfPin pin) ds
    → Each (λ (x : Entry). IsOfPin pin x.call) (entries_of ds)
entries_pin pin [] h = tt
entries_pin pin (d ∷ ds) h = (h.0, entries_pin pin ds h.1)

-- ---- as entries

-- the reply to a bounce that was answered so
abbrev reply_by : Result ℕ Refusal → Reply
reply_by what = reply_of (as_reply Wrote what)

pub bounce_entries : (used_up : Bool) (what : Result ℕ Refusal) (own : List Deed) (r : Reply) → r ≡ reply_by what
    → BounceDeeds used_up batch what own → BounceEntries r (entries_of own)
bounce_entries used_up what [] r is (inl none) = inr (is ∙ ap reply_by none)
bounce_entries used_up what [] r is (inr none) = inl (is ∙ ap reply_by none.0)
bounce_entries used_up what (d ∷ ds) r is (call, inl (pin, pinned, after)) =
    (call, inr (pin, ap reply_of pinned, entries_pin pin ds (after_pin after)))
bounce_entries used_up what (d ∷ ds) r is (call, inr (why, refused, told, none)) =
    (call, inl (ap reply_of refused ∙ sym (is ∙ ap reply_by told), ap entries_of none))

-- the number that is printed
pub bounce_number : (p : Place) (added own : List Deed) (last : ℕ)
    → ((front back : List Deed) (d : Deed) → added ≡ front ++ d ∷ back → Each IsPlain (front ++ d ∷ []))
    → TellsBounce p added own last
    → BounceNumber (number_after p.first p.seen) p.last last (entries_of added) (entries_of own)
bounce_number p added [] last plain h = h
bounce_number p added (d ∷ ds) last plain (front, back, are, at) = (
  entries_of front,
  entries_of back,
  ap entries_of are ∙ entries_append front (d ∷ back),
  at ∙ (number_append p.first p.seen (front ++ d ∷ [])
      ∙ (sym (last_as (number_after p.first p.seen) (front ++ d ∷ []) (plain front back d are))
      ∙ ap (last_number (number_after p.first p.seen)) (entries_append front (d ∷ [])))),
)
