-- The entries that a session's opening made.
use Rattle.session_run.proofs.Common.{◌≡◌, inl, inr, ◌∙◌, refl, sym, ap, subst, ℕ, ◌+◌, Bool, true, false, List, []}
use Rattle.session_run.proofs.Common.{◌∷◌, ◌++◌, Result, Ok, Err, Line, Pin, Reply, Call, Track, Refusal, reply_of}
use Rattle.session_run.proofs.Common.{Each, entries_of, entry_of, number_after, Deed, spent, HadTurn, any_seat}
use Rattle.session_run.proofs.Common.{numbers_of, is_refusal, Side, Made, NotAsked, Refused, OwnDeed, PinDeed}
use Rattle.session_run.proofs.Common.{TrackDeed, record_commits, last_number}
use Rattle.session_run.proofs.EntryLemmas.{IsPlain, last_as, plain_reply}
use Rattle.editor_state.specs.Took.{silent}
use Rattle.studio_seats.specs.Deeds.{deed}
use Rattle.session_run.specs.Sides.{IsOne, MakesSide}
use Rattle.pcm_base.specs.declared.answer.Reply.TheVariants as reply

-- the entry of a call of the first seat
one_of : (call : Call) (what : Result Reply Refusal) (own : List Deed) → own ≡ deed 0 call what silent ∷ []
    → IsOne call (reply_of what) (entries_of own)
one_of call what own is = record {
  entry = entry_of (deed 0 call what silent);
  are = ap entries_of is;
  actor = refl;
  call_is = refl;
  reply = refl;
}

refused_of : (spent_ : Bool) (call : Call) (why : Refusal) (own : List Deed) → OwnDeed spent_ 0 call (Err why) own
    → (Gives : ℕ → Reply → Type 0) → MakesSide call Gives (Refused why) (entries_of own)
refused_of spent_ call why own (inl is) Gives = inl (one_of call (Err why) own is)
refused_of spent_ call why own (inr h) Gives = inr (same (Err why) why spent refl h.0, ap entries_of h.1)
  where
    same : (r : Result Reply Refusal) (a b : Refusal) → r ≡ Err a → r ≡ Err b → a ≡ b
    same r a b one two = cc

-- a call that was carried out is an entry
made_of : (spent_ : Bool) (call : Call) (r : Reply) (own : List Deed) → OwnDeed spent_ 0 call (Ok r) own
    → own ≡ deed 0 call (Ok r) silent ∷ []
made_of spent_ call r own (inl is) = is
made_of spent_ call r own (inr h) = absurd (no h.0)
  where
    no : Ok r ≡ Err spent → ⊥
    no is = cc

-- the recording's track
pub track_side : (spent_ : Bool) (n : ℕ) (made : Side) (own more : List Deed)
    → TrackDeed spent_ 0 made own → numbers_of any_seat n (own ++ more) ≡ record_commits made → Each IsPlain own
    → MakesSide (Line Track) (λ tag r. (tag ≡ last_number n (entries_of own)) × (is_refusal r ≡ false)) made
    (entries_of own)
track_side spent_ n NotAsked own more h numbers plain = ap entries_of h
track_side spent_ n (Refused why) own more h numbers plain =
    refused_of spent_ (Line Track) why own h (λ tag r. (tag ≡ last_number n (entries_of own)) × (is_refusal r ≡ false))
track_side spent_ n (Made tag) own more (r, h) numbers plain =
    let is = made_of spent_ (Line Track) r own h in
    let first : (n + 1) ∷ numbers_of any_seat (n + 1) more ≡ tag ∷ [] =
    sym (ap (λ (l : List Deed). numbers_of any_seat n (l ++ more)) is) ∙ numbers in
    let number : number_after n own ≡ n + 1 = ap (number_after n) is in (
      r,
      (
        sym (head_inj (n + 1) tag (numbers_of any_seat (n + 1) more) first) ∙ sym (last_as n own plain ∙ number),
        plain_reply r (subst (λ (l : List Deed). Each IsPlain l) is plain).0,
      ),
      one_of (Line Track) (Ok r) own is,
    )
  where
    head_inj : (a b : ℕ) (l : List ℕ) → a ∷ l ≡ b ∷ [] → a ≡ b
    head_inj a b l is = cc

-- the pin
pub pin_side : (spent_ : Bool) (made : Side) (own : List Deed) → PinDeed spent_ 0 made own
    → MakesSide Pin (λ number r. r ≡ reply.Pinned number) made (entries_of own)
pin_side spent_ NotAsked own h = ap entries_of h
pin_side spent_ (Refused why) own h = refused_of spent_ Pin why own h (λ number r. r ≡ reply.Pinned number)
pin_side spent_ (Made pin) own h =
    let is = made_of spent_ Pin (reply.Pinned pin) own h in
    (reply.Pinned pin, refl, one_of Pin (Ok (reply.Pinned pin)) own is)

-- a call for which no turn was left was found so
own_spent : (spent_ : Bool) (call : Call) (own : List Deed) → OwnDeed spent_ 0 call (Err spent) own → Each HadTurn own
    → spent_ ≡ true
own_spent spent_ call own (inl is) had =
    absurd ((subst (λ (l : List Deed). Each HadTurn l) is had).0 refl)
own_spent spent_ call own (inr h) had = h.2

pub track_spent : (spent_ : Bool) (made : Side) (own : List Deed) → TrackDeed spent_ 0 made own
    → Each HadTurn own → made ≡ Refused spent → spent_ ≡ true
track_spent spent_ made own h had is = own_spent spent_ (Line Track) own
    (subst (λ (m : Side). TrackDeed spent_ 0 m own) is h) had

pub pin_spent : (spent_ : Bool) (made : Side) (own : List Deed) → PinDeed spent_ 0 made own
    → Each HadTurn own → made ≡ Refused spent → spent_ ≡ true
pin_spent spent_ made own h had is = own_spent spent_ Pin own (subst (λ (m : Side). PinDeed spent_ 0 m own) is h) had

-- ---- what holds of each deed that the opening may make

own_each : (P : Deed → Type 0) (spent_ : Bool) (call : Call) (what : Result Reply Refusal) (own : List Deed)
    → P (deed 0 call what silent) → OwnDeed spent_ 0 call what own → Each P own
own_each P spent_ call what own here (inl is) = subst (λ (l : List Deed). Each P l) (sym is) (here, tt)
own_each P spent_ call what own here (inr h) = subst (λ (l : List Deed). Each P l) (sym h.1) tt

pub track_each : (P : Deed → Type 0) (spent_ : Bool) (made : Side) (own : List Deed)
    → ((what : Result Reply Refusal) → P (deed 0 (Line Track) what silent)) → TrackDeed spent_ 0 made own → Each P own
track_each P spent_ NotAsked own here h = subst (λ (l : List Deed). Each P l) (sym h) tt
track_each P spent_ (Made tag) own here h = own_each P spent_ (Line Track) (Ok h.0) own (here (Ok h.0)) h.1
track_each P spent_ (Refused why) own here h = own_each P spent_ (Line Track) (Err why) own (here (Err why)) h

pub pin_each : (P : Deed → Type 0) (spent_ : Bool) (made : Side) (own : List Deed)
    → ((what : Result Reply Refusal) → P (deed 0 Pin what silent)) → PinDeed spent_ 0 made own → Each P own
pin_each P spent_ NotAsked own here h = subst (λ (l : List Deed). Each P l) (sym h) tt
pin_each P spent_ (Made pin) own here h =
    own_each P spent_ Pin (Ok (reply.Pinned pin)) own (here (Ok (reply.Pinned pin))) h
pin_each P spent_ (Refused why) own here h = own_each P spent_ Pin (Err why) own (here (Err why)) h
