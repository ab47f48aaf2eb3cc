-- What the turns of an opening add to the list.
use Rattle.std.proofs.Common.{◌≡◌, inl, inr, ⊎_elim, ℕ, zero, suc, ◌+◌, ◌≤◌, nat_lt, max, if◌then◌else◌, Bool, true}
use Rattle.std.proofs.Common.{List, [], ◌∷◌, ◌++◌, Result, Ok, Err, refl, sym, ◌∙◌, ap, subst, arith, append_assoc}
use Rattle.std.proofs.Common.{eq-eqb}
use Rattle.std.proofs.lemmas.List.{append-nil}
use Rattle.pcm_base.specs.declared.command.Call.TheVariants.{Line, Pin, Unpin}
use Rattle.pcm_base.specs.{declared.answer.Reply.Reply, declared.command.Call.Call}
use Rattle.pcm_base.specs.{declared.command.Command.TheVariants.Track, declared.refusal.Refusal.Refusal}
use Rattle.pcm_base.specs.{declared.said.Said.Said, Arithmetic.counted_from, Counters.commits_of}
use Rattle.disk_model.specs.declared.store.Store.{Ghosts}
use Rattle.pin_turn.specs.declared.view.View.{View}
use Rattle.editor_state.specs.{Core.Core, Took.silent, Took.as_reply}
use Rattle.studio_seats.specs.{Desks.Says, Desks.Turned, Desks.asked, Desks.spent, Desks.views, declared.deed.Deed.Deed}
use Rattle.studio_seats.specs.{declared.held.Held.Held, Deeds.number_after, Deeds.commits, Deeds.deed, Merge.numbers_of}
use Rattle.studio_seats.specs.{Merge.by_seat, Merge.deeds_of, Onward.Onward, Stands.origin}
use Rattle.studio_seats.proofs.MergeLemmas.{deeds_append, numbers_append, numbers_others, own_order}
use Rattle.studio_seats.proofs.OnwardLemmas.{onward_on, onward_self, onward_turn}
use Rattle.studio_seats.proofs.{Grown.number_append, Turns.number_on, Turns.turned_number}
use Rattle.desk_session.specs.Opening.{IsOpening, LetsGo, MakesCall, Opens, OwnDeed, PinDeed, TellsNumber, TrackDeed}
use Rattle.desk_session.specs.Opening.{record_commits}
use Rattle.desk_session.specs.{declared.opening.Opened.Opened, declared.side.Side.Side, Sides.IfMade, Sides.made_by}
use Rattle.desk_session.proofs.ListLemmas.{same_rest}
use Rattle.pcm_base.specs.declared.answer.Reply.TheVariants as reply
use Rattle.edit_ports.specs.declared.vault.Vault as vault
use Rattle.desk_session.specs.declared.side.Side.TheVariants as side

-- the numbers of a call that makes one commit at most, where this one is told
abbrev numbers_told : ℕ → ℕ → List ℕ
numbers_told count at = if nat_lt 0 count then at ∷ [] else []

one_or_none : (count n : ℕ) → count ≤ 1 → counted_from (n + 1) count ≡ numbers_told count (n + count)
one_or_none zero n few = refl
one_or_none (suc zero) n few = refl
one_or_none (suc (suc count)) n few = absurd (omega (arith, few))

few_made : (what : Result Reply Refusal) (call : Call) → commits_of call ≤ 1 → commits what call ≤ 1
few_made (Ok r) call few = few
few_made (Err why) call few = omega arith

number_one : (seat n : ℕ) (call : Call) (what : Result Reply Refusal) → commits_of call ≤ 1
    → numbers_of (by_seat seat) n (deed seat call what silent ∷ [])
    ≡ numbers_told (commits what call) (n + commits what call)
number_one seat n call what few =
    ap (λ (b : Bool). (if b then counted_from (n + 1) (commits what call) else []) ++ []) (eq-eqb seat seat refl)
    ∙ (append-nil (counted_from (n + 1) (commits what call))
    ∙ one_or_none (commits what call) n (few_made what call few))

nothing_more : (xs ys : List Deed) → xs ≡ xs ++ ys → ys ≡ []
nothing_more xs ys h = same_rest xs ys [] (sym h ∙ sym (append-nil xs))

module _ {D V A : Type 0} (disk : Ghosts D) (vaults : vault.Ghosts V) (start : Core D) (v w : View (Held D V disk) Deed)
    (fits : Call → Type 0) (call : Call) (what : Result Reply Refusal) (said : Said A) (fit : fits call)
    (none : (why : Refusal) → said.what ≡ Err why → what ≡ Err why) (few : commits_of call ≤ 1) where
  -- the deed of a call, and its number
  pub opens_call : Says (origin disk vaults start) (asked call what silent) said (views v w)
      → MakesCall fits start.commit_number (OwnDeed w.used_up v.number call what) (numbers_told (commits what call) said.at) v w
  opens_call (inl x) =
      let e = deed v.number call what silent in
      let n = v.number in
      let m = number_after start.commit_number v.seen in
      let on = onward_turn fits disk vaults start v w call what silent said fit (inl x) in
      let seen : w.seen ≡ v.seen ++ (x.between ++ e ∷ []) =
      (λ i. (x.view i).seen) ∙ append_assoc v.seen x.between (e ∷ []) in
      let is : on.added ≡ x.between ++ e ∷ [] = same_rest v.seen on.added (x.between ++ e ∷ []) (sym on.seen ∙ seen) in
      let at : said.at ≡ number_after m x.between + commits what call =
      x.number ∙ (turned_number x ∙ (number_append start.commit_number (v.seen ++ x.between) (e ∷ [])
      ∙ ap (λ (k : ℕ). k + commits what call) (number_append start.commit_number v.seen x.between))) in
      record {
        onward = on;
        own = inl (ap (deeds_of (by_seat n)) is ∙ own_order n [] x.between e refl x.by_others);
        numbers_are = ap (numbers_of (by_seat n) m) is ∙ (numbers_append (by_seat n) m x.between (e ∷ [])
            ∙ ((λ i. numbers_others n m x.between x.by_others i
            ++ number_one n (number_after m x.between) call what few i)
            ∙ ap (numbers_told (commits what call)) (sym at)));
      }
  opens_call (inr x) =
      let n = v.number in
      let m = number_after start.commit_number v.seen in
      let on = onward_turn fits disk vaults start v w call what silent said fit (inr x) in
      let is : on.added ≡ [] = nothing_more v.seen on.added (sym (λ i. (x.view i).seen) ∙ on.seen) in
      let refused : what ≡ Err spent = none spent x.what in
      record {
        onward = on;
        own = inr (refused, ap (deeds_of (by_seat n)) is, λ i. (x.view i).used_up);
        numbers_are = ap (numbers_of (by_seat n) m) is
            ∙ sym (ap (λ (r : Result Reply Refusal). numbers_told (commits r call) said.at) refused);
      }

-- nothing was called
pub opens_none : {D V : Type 0} {disk : Ghosts D} (first : ℕ) (v : View (Held D V disk) Deed)
    → MakesCall IsOpening first (λ own. own ≡ []) [] v v
opens_none {D} {V} first v =
    let on : Onward IsOpening v v = onward_self IsOpening v in
    let is : on.added ≡ [] = nothing_more v.seen on.added on.seen in
    record {
      onward = on;
      own = ap (deeds_of (by_seat v.number)) is;
      numbers_are = ap (numbers_of (by_seat v.number) (number_after first v.seen)) is;
    }

-- the same of a call, told in other words
pub opens_as : {D V : Type 0} {disk : Ghosts D} {fits : Call → Type 0} {first : ℕ} {One Other : List Deed → Type 0}
    {numbers others : List ℕ} {v w : View (Held D V disk) Deed} → ((own : List Deed) → One own → Other own)
    → numbers ≡ others → MakesCall fits first One numbers v w → MakesCall fits first Other others v w
opens_as {v = v} f is h = record {
  onward = h.onward;
  own = f (deeds_of (by_seat v.number) h.onward.added) h.own;
  numbers_are = h.numbers_are ∙ is;
}

-- a seat that found that no turn is left still knows
pub own_later : {a b : Bool} → (a ≡ true → b ≡ true) → {n : ℕ} {call : Call} {what : Result Reply Refusal}
    {own : List Deed} → OwnDeed a n call what own → OwnDeed b n call what own
own_later later (inl is) = inl is
own_later later (inr (refused, none, found)) = inr (refused, none, later found)

pub track_later : {a b : Bool} → (a ≡ true → b ≡ true) → (n : ℕ) (made : Side) (own : List Deed)
    → TrackDeed a n made own → TrackDeed b n made own
track_later later n side.NotAsked own h = h
track_later later n (side.Made tag) own (r, h) = (r, own_later later h)
track_later later n (side.Refused why) own h = own_later later h

pub pin_later : {a b : Bool} → (a ≡ true → b ≡ true) → (n : ℕ) (made : Side) (own : List Deed)
    → PinDeed a n made own → PinDeed b n made own
pin_later later n side.NotAsked own h = h
pin_later later n (side.Made pin) own h = own_later later h
pin_later later n (side.Refused why) own h = own_later later h

-- both, one after the other
pub opens_both : {D V : Type 0} {disk : Ghosts D} (first : ℕ) (opened : Opened) (u v w : View (Held D V disk) Deed)
    → MakesCall IsOpening first (TrackDeed v.used_up u.number opened.recording) (record_commits opened.recording) u v
    → MakesCall IsOpening first (PinDeed w.used_up v.number opened.pin) [] v w → Opens first opened u w
opens_both {D} {V} first opened u v w h k =
    let on : Onward IsOpening u w = onward_on IsOpening u v w h.onward k.onward in
    let n = u.number in
    let m = number_after first u.seen in
    let same : v.number ≡ u.number = h.onward.number in
    let is : on.added ≡ h.onward.added ++ k.onward.added = same_rest u.seen on.added (h.onward.added ++ k.onward.added)
    (sym on.seen ∙ (k.onward.seen ∙ (ap (λ (l : List Deed). l ++ k.onward.added) h.onward.seen
    ∙ append_assoc u.seen h.onward.added k.onward.added))) in
    let later : numbers_of (by_seat n) (number_after m h.onward.added) k.onward.added ≡ [] =
    (λ i. numbers_of (by_seat (sym same i)) ((sym (number_append first u.seen h.onward.added)
    ∙ sym (ap (number_after first) h.onward.seen)) i) k.onward.added)
    ∙ k.numbers_are in
    record {
      onward = on;
      track_own = deeds_of (by_seat n) h.onward.added;
      pin_own = deeds_of (by_seat n) k.onward.added;
      own = ap (deeds_of (by_seat n)) is ∙ deeds_append (by_seat n) h.onward.added k.onward.added;
      track = track_later k.onward.used_up n opened.recording (deeds_of (by_seat n) h.onward.added) h.own;
      pin = subst (λ (a : ℕ). PinDeed w.used_up a opened.pin (deeds_of (by_seat a) k.onward.added)) same k.own;
      numbers = ap (numbers_of (by_seat n) m) is ∙ (numbers_append (by_seat n) m h.onward.added k.onward.added
          ∙ ((λ i. h.numbers_are i ++ later i) ∙ append-nil (record_commits opened.recording)));
    }

-- a tag that is no higher than a number to which deeds lead stays so
pub tag_on : (made : Side) (first : ℕ) (seen seen' more : List Deed) → seen' ≡ seen ++ more
    → IfMade made (λ tag. (1 ≤ tag) × (tag ≤ number_after first seen))
    → IfMade made (λ tag. (1 ≤ tag) × (tag ≤ number_after first seen'))
tag_on side.NotAsked first seen seen' more is h = tt
tag_on (side.Made tag) first seen seen' more is h =
    let on = number_on first seen more in
    let same = ap (number_after first) is in
    let low = h.1 in (h.0, omega (arith, low, on, same))
tag_on (side.Refused why) first seen seen' more is h = tt

module _ {D V A : Type 0} (disk : Ghosts D) (vaults : vault.Ghosts V) (start : Core D) (v w : View (Held D V disk) Deed)
    (call : Call) (what : Result Reply Refusal) (said : Said A) where
  -- a call tells the commit number after it
  pub tells_number : Says (origin disk vaults start) (asked call what silent) said (views v w)
      → TellsNumber start.commit_number v said.at w
  tells_number (inl x) = λ last is.
      let n = start.commit_number in
      let e = deed v.number call what silent in
      let seen : w.seen ≡ v.seen ++ (x.between ++ e ∷ []) =
      (λ i. (x.view i).seen) ∙ append_assoc v.seen x.between (e ∷ []) in
      let same : said.at ≡ number_after n w.seen =
      x.number ∙ turned_number x ∙ sym (λ i. number_after n (x.view i).seen) in
      let on = number_on n v.seen (x.between ++ e ∷ []) in
      let at = ap (number_after n) seen in
      let up : max last said.at ≡ said.at = omega (arith, is, same, on, at) in up ∙ same
  tells_number (inr x) = λ last is.
      let none = x.at in
      let stays : max last said.at ≡ last = omega (arith, none) in
      stays ∙ (is ∙ sym (λ i. number_after start.commit_number (x.view i).seen))

-- where no call is made, 0 is answered
pub tells_none : {D V : Type 0} {disk : Ghosts D} (first : ℕ) (v : View (Held D V disk) Deed) → TellsNumber first v 0 v
tells_none first v = λ last is. let stays : max last 0 ≡ last = omega arith in stays ∙ is

-- after two calls the higher of both answers is the number
pub tells_both : {D V : Type 0} {disk : Ghosts D} (first : ℕ) (u v w : View (Held D V disk) Deed) (one two at : ℕ)
    → TellsNumber first u one v → TellsNumber first v two w → at ≡ max one two → TellsNumber first u at w
tells_both first u v w one two at h k is = λ last here.
    let same : max last at ≡ max (max last one) two = omega (arith, is) in
    same ∙ k (max last one) (h last here)

module _ {D V A : Type 0} (disk : Ghosts D) (vaults : vault.Ghosts V) (start : Core D) (v w : View (Held D V disk) Deed)
    (f : A → Reply) (said : Said A)
    (says : Says (origin disk vaults start) (asked (Line Track) (as_reply f said.what) silent) said (views v w)) where
  abbrev told : Result Reply Refusal
  told = as_reply f said.what

  called : MakesCall IsOpening start.commit_number (OwnDeed w.used_up v.number (Line Track) told)
      (numbers_told (commits told (Line Track)) said.at) v w
  called = opens_call disk vaults start v w IsOpening (Line Track) told said (inl refl)
      (λ why is. ap (λ (r : Result A Refusal). as_reply f r) is) (let one : 1 ≤ 1 = omega arith in one) says

  -- a new track
  pub track_made : (x : A) → said.what ≡ Ok x
      → MakesCall IsOpening start.commit_number (TrackDeed w.used_up v.number (side.Made said.at))
      (record_commits (side.Made said.at)) v w
  track_made x is = opens_as
      (λ own h. (
        f x,
        subst (λ (r : Result A Refusal). OwnDeed w.used_up v.number (Line Track) (as_reply f r) own)
            is h,
      ))
      (ap (λ (r : Result A Refusal). numbers_told (commits (as_reply f r) (Line Track)) said.at) is) called

  taken_above : (x : A) → said.what ≡ Ok x
      → Turned (origin disk vaults start) (asked (Line Track) told silent) said.at (views v w) → 1 ≤ said.at
  taken_above x is t =
      let n = start.commit_number in
      let e = deed v.number (Line Track) told silent in
      let at : said.at ≡ number_after n (v.seen ++ t.between) + commits told (Line Track) =
      t.number ∙ (turned_number t ∙ number_append n (v.seen ++ t.between) (e ∷ [])) in
      let one : said.at ≡ number_after n (v.seen ++ t.between) + 1 =
      at ∙ ap (λ (r : Result A Refusal). number_after n (v.seen ++ t.between) + commits (as_reply f r) (Line Track)) is
      in omega (arith, one)

  -- its number is a commit number, up to the last that the seat knows
  pub track_tag : (x : A) → said.what ≡ Ok x
      → (1 ≤ said.at) × (said.at ≤ number_after start.commit_number w.seen)
  track_tag x is =
      let last = number_after start.commit_number v.seen in
      let up : max last said.at ≡ number_after start.commit_number w.seen =
      tells_number disk vaults start v w (Line Track) told said says last refl in (
        ⊎_elim (taken_above x is) (λ t. absurd (cc (sym is ∙ t.what))) says,
        omega (arith, up),
      )

  pub track_refused : (why : Refusal) → said.what ≡ Err why
      → MakesCall IsOpening start.commit_number (TrackDeed w.used_up v.number (side.Refused why))
      (record_commits (side.Refused why)) v w
  track_refused why is = opens_as
      (λ own h. subst (λ (r : Result A Refusal). OwnDeed w.used_up v.number (Line Track) (as_reply f r) own) is h)
      (ap (λ (r : Result A Refusal). numbers_told (commits (as_reply f r) (Line Track)) said.at) is) called

pin_deed : (used_up : Bool) (seat : ℕ) (r : Result ℕ Refusal) (own : List Deed)
    → OwnDeed used_up seat Pin (as_reply reply.Pinned r) own → PinDeed used_up seat (made_by r) own
pin_deed used_up seat (Ok pin) own h = h
pin_deed used_up seat (Err why) own h = h

no_numbers : (r : Result ℕ Refusal) (at : ℕ) → numbers_told (commits (as_reply reply.Pinned r) Pin) at ≡ []
no_numbers (Ok pin) at = refl
no_numbers (Err why) at = refl

-- a pin
pub pinned : {D V : Type 0} (disk : Ghosts D) (vaults : vault.Ghosts V) (start : Core D)
    (v w : View (Held D V disk) Deed) (said : Said ℕ)
    → Says (origin disk vaults start) (asked Pin (as_reply reply.Pinned said.what) silent) said (views v w)
    → MakesCall IsOpening start.commit_number (PinDeed w.used_up v.number (made_by said.what)) [] v w
pinned {D} {V} disk vaults start v w said says =
    let told = as_reply reply.Pinned said.what in
    opens_as (pin_deed w.used_up v.number said.what) (no_numbers said.what said.at)
    (opens_call disk vaults start v w IsOpening Pin told said (inr refl)
    (λ why is. ap (λ (r : Result ℕ Refusal). as_reply reply.Pinned r) is) (let none : 0 ≤ 1 = omega arith in none) says)

-- a pin was released
pub lets_go : {D V : Type 0} (disk : Ghosts D) (vaults : vault.Ghosts V) (start : Core D)
    (v w : View (Held D V disk) Deed)
    (pin : ℕ) (said : Said (Unit {0}))
    → Says (origin disk vaults start) (asked (Unpin pin) (as_reply (λ _. reply.Done) said.what) silent) said (views v w)
    → LetsGo start.commit_number pin v w
lets_go {D} {V} disk vaults start v w pin said says =
    let told = as_reply (λ _. reply.Done) said.what in
    record {
      what = told;
      calls = opens_as (λ own h. h) (no_unpin said.what said.at)
          (opens_call disk vaults start v w (λ call. call ≡ Unpin pin) (Unpin pin) told said refl
          (λ why is. ap (λ (r : Result (Unit {0}) Refusal). as_reply (λ _. reply.Done) r) is)
          (let none : 0 ≤ 1 = omega arith in none) says);
    }
  where
    no_unpin : (r : Result (Unit {0}) Refusal) (at : ℕ)
        → numbers_told (commits (as_reply (λ _. reply.Done) r) (Unpin pin)) at ≡ []
    no_unpin (Ok _) at = refl
    no_unpin (Err why) at = refl
