-- A bounce: its pin, what was written by it, and the pin let go.
use Rattle.sound_bounce.proofs.Common.{◌≡◌, ◌⊎◌, inl, inr, ℕ, ◌+◌, ◌*◌, ◌<◌, Bool, true, false, List, ◌∷◌, ◌++◌}
use Rattle.sound_bounce.proofs.Common.{append_assoc, refl, sym, ◌∙◌, ap, subst, Result, Ok, Err, IfOk, Pin, Unpin, Call}
use Rattle.sound_bounce.proofs.Common.{Refusal, Said, Ghosts, View, Each, Core, silent, as_reply, Deed, Held, deed}
use Rattle.sound_bounce.proofs.Common.{Says, asked, spent, views, by_seat, deeds_of, origin, own_on, reason_or}
use Rattle.sound_bounce.proofs.Common.{onward_on, onward_self, onward_as, BounceDeeds, WasRefused, Holds, IsGone}
use Rattle.sound_bounce.proofs.Common.{IsUnread, IsReadIn, IsRefusedBy, IsWritten, LetsGo, LoadsEnd, Moved, ReadsPin}
use Rattle.sound_bounce.proofs.Common.{Spares, length_in, may_let_go, moved, own_in, text_by, []}
use Rattle.sound_bounce.proofs.Sayings.{IsMute, faults_as, length_back, length_front, mute_gone, mute_pinned, text_back}
use Rattle.sound_bounce.proofs.Sayings.{text_front, loads_as, refused_left, refused_right}
use Rattle.sound_bounce.proofs.{TurnLemmas.answered, TurnLemmas.call_as, FileLemmas.spares_silent}
use Rattle.sound_bounce.specs.Bounces.{Bounced, IsAfterPin, IsDone, IsOfBounce, TellsPin}
use Rattle.pin_turn.proofs.Sums.{Each-left, Each-right}
use Rattle.std.proofs.lemmas.Bool.{true≢false}
use Rattle.studio_seats.proofs.CallLemmas.{call_idle}
use Rattle.pcm_base.specs.declared.answer.Reply.TheVariants as reply
use Rattle.pcm_base.specs.declared.refusal.Refusal.TheVariants as refusal
use Rattle.edit_ports.specs.declared.vault.Vault as vault

-- ---- a seat that found that no turn is left still knows

module _ {a b : Bool} (later : a ≡ true → b ≡ true) where
  refused_later : {c : Call} {why : Refusal} {ds : List Deed} → IsRefusedBy a c why ds → IsRefusedBy b c why ds
  refused_later (inl h) = inl h
  refused_later (inr (none, is, found)) = inr (none, is, later found)

  end_later : {A : Type 0} (pin batch len place : ℕ) (what : Result A Refusal) (ds : List Deed)
      → LoadsEnd a pin batch len place what ds → LoadsEnd b pin batch len place what ds
  end_later pin batch len place (Ok x) ds h = h
  end_later pin batch len place (Err why) ds (inl h) = inl (refused_later h)
  end_later pin batch len place (Err why) ds (inr h) = inr h

  reads_later : (pin batch : ℕ) (what : Result ℕ Refusal) (ds : List Deed) → ReadsPin a pin batch what ds
      → ReadsPin b pin batch what ds
  reads_later pin batch what ds (inl (len, h)) = inl (
    len,
    record {
      asked = h.asked;
      rest = h.rest;
      are = h.are;
      length_is = h.length_is;
      loads = loads_as h.loads (end_later pin batch len h.loads.place what h.loads.last h.loads.ends);
    },
  )
  reads_later pin batch (Ok x) ds (inr h) = absurd h
  reads_later pin batch (Err why) ds (inr (inl h)) = inr (inl (refused_later h))
  reads_later pin batch (Err why) ds (inr (inr h)) = inr (inr h)

-- ---- deeds that say nothing, before others and after them

abbrev Unread : Deed → Type 0
Unread d = IsUnread d.what

module _ {V : Type 0} (rate : ℕ) (what : Result ℕ Refusal) (m : Moved V) where
  spares_as : (own all : List Deed) → text_by rate all ≡ text_by rate own → length_in all ≡ length_in own
      → (WasRefused refusal.VaultFault own → WasRefused refusal.VaultFault all)
      → (Each Unread all → Each Unread own) → Spares rate what own m → Spares rate what all m
  spares_as own all text long told few h = record {
    holds = λ t. subst (λ (bytes : List ℕ). Holds m bytes what) (sym text) (h.holds t);
    size = subst (λ (n : ℕ). IfOk what (λ bytes. bytes ≡ 44 + 4 * n)) (sym long) h.size;
    too_long = λ big. h.too_long (subst (λ (n : ℕ). 4294967295 < 36 + 4 * n) long big);
    unread = λ none. h.unread (few none);
    keeps = h.keeps;
    faults = faults_as what own all (m.ghosts.fault_count m.old) (m.ghosts.fault_count m.new) told h.faults;
  }

  pub spares_front : (xs ys all : List Deed) → all ≡ xs ++ ys → IsMute xs → Spares rate what ys m
      → Spares rate what all m
  spares_front xs ys all is mute h = subst (λ (ds : List Deed). Spares rate what ds m) (sym is)
      (spares_as ys (xs ++ ys) (text_front rate xs ys mute) (length_front xs ys mute)
      (refused_right refusal.VaultFault xs ys) (Each-right Unread xs ys) h)

  pub spares_back : (xs ys all : List Deed) → all ≡ xs ++ ys → IsMute ys → Spares rate what xs m
      → Spares rate what all m
  spares_back xs ys all is mute h = subst (λ (ds : List Deed). Spares rate what ds m) (sym is)
      (spares_as xs (xs ++ ys) (text_back rate xs ys mute) (length_back xs ys mute)
      (refused_left refusal.VaultFault xs ys) (Each-left Unread xs ys) h)

-- ---- the pin is let go

module _ {D V A : Type 0} (disk : Ghosts D) (vaults : vault.Ghosts V) (start : Core D) (pin : ℕ)
    (v w : View (Held D V disk) Deed) (said : Said A)
    (says : Says (origin disk vaults start) (asked (Unpin pin) (as_reply (λ (_ : A). reply.Done) said.what) silent) said
    (views v w)) where
  done_or_not : (r : Result A Refusal) → (as_reply (λ (_ : A). reply.Done) r ≡ Ok reply.Done)
      ⊎ ((why : Refusal) × (as_reply (λ (_ : A). reply.Done) r ≡ Err why))
  done_or_not (Ok x) = inl refl
  done_or_not (Err why) = inr (why, refl)

  pub gone_turn : IsGone pin true (views v w)
  gone_turn =
      let one = call_as (IsAfterPin pin) disk vaults start v w (Unpin pin) (λ _. reply.Done) said (inr refl) says
      said.what refl in
      record {
        onward = one.onward;
        gone = elim one.how [
          | inl x ↦ inl (
            deed v.number (Unpin pin) (as_reply (λ (_ : A). reply.Done) said.what) silent,
            x.own,
            refl,
            done_or_not said.what,
          )
          | inr x ↦ inr (ap (deeds_of (by_seat v.number)) x.0, x.3)
        ];
      }

pub gone_none : {D V : Type 0} {disk : Ghosts D} (pin : ℕ) (v : View (Held D V disk) Deed)
    → IsGone pin false (views v v)
gone_none pin v = record { onward = onward_self (IsAfterPin pin) v; gone = refl }

-- after it was read
pub done_by : {D V : Type 0} {disk : Ghosts D} (rate pin batch : ℕ) (what : Result ℕ Refusal) (may : Bool)
    (v w x : View (Held D V disk) Deed) (m : Moved V) → may ≡ may_let_go what
    → IsWritten rate pin batch what (views v w) m → IsGone pin may (views w x)
    → IsDone rate pin batch what (views v x) m
done_by rate pin batch what may v w x m may_is h g =
    let xs : List Deed = own_in (views v w) h.onward in
    let ys : List Deed = own_in (views w x) g.onward in
    let own : deeds_of (by_seat v.number) (h.onward.added ++ g.onward.added) ≡ xs ++ ys =
    own_on (IsReadIn pin) (IsAfterPin pin) v w x h.onward g.onward in
    record {
      onward = onward_on (IsAfterPin pin) v w x
          (onward_as (IsReadIn pin) (IsAfterPin pin) v w (λ c read. inl read) h.onward) g.onward;
      after = record {
        reads = xs;
        gone = ys;
        are = own;
        reads_are = reads_later g.onward.used_up pin batch what xs h.reads;
        lets_go = subst (λ (b : Bool). LetsGo x.used_up pin b ys) may_is g.gone;
      };
      spares = spares_back rate what m xs ys (deeds_of (by_seat v.number) (h.onward.added ++ g.onward.added)) own
          (mute_gone x.used_up pin may ys g.gone) h.spares;
    }

-- ---- the whole

module _ {D V : Type 0} (disk : Ghosts D) (vaults : vault.Ghosts V) (start : Core D) (batch : ℕ) where
  -- there is no memory for it
  pub bounced_none : (v : View (Held D V disk) Deed) (name : List ℕ) (a : V)
      → Bounced (origin disk vaults start) batch (record { at = 0; what = Err refusal.NoMemory }) (views v v)
      (moved vaults name a a)
  bounced_none v name a = record {
    onward = onward_self IsOfBounce v;
    deeds = inl refl;
    number = refl;
    idle = λ used. refl;
    spares = spares_silent vaults name start.rate refusal.NoMemory [] a (λ is. absurd (cc is));
  }

  module _ (v w : View (Held D V disk) Deed) (said : Said ℕ)
      (says : Says (origin disk vaults start) (asked Pin (as_reply reply.Pinned said.what) silent) said (views v w))
    where
      -- the pin was refused
      pub bounced_refused : (why : Refusal) → said.what ≡ Err why → (name : List ℕ) (a : V)
          → Bounced (origin disk vaults start) batch (record { at = said.at; what = Err why }) (views v w)
          (moved vaults name a a)
      bounced_refused why is name a =
          let one = call_as IsOfBounce disk vaults start v w Pin reply.Pinned said (inl refl) says (Err why) is in
          let own : List Deed = own_in (views v w) one.onward in
          let Tells : List Deed → Type 0 = λ ds. BounceDeeds w.used_up batch (Err why) ds
          × TellsPin start.commit_number v.seen said.at one.onward.added ds
          × (why ≡ refusal.VaultFault → WasRefused refusal.VaultFault ds) in
          let tells : Tells own = elim one.how [
            | inl x ↦ subst Tells (sym x.own)
                ((refl, inr (why, refl, refl, refl)), (x.between, [], x.are, x.number), λ lost. inl (ap Err lost))
            | inr x ↦ subst Tells (sym (ap (deeds_of (by_seat v.number)) x.0))
                (inr (x.2, x.3), x.1, λ lost. absurd (cc (sym (ap (reason_or spent) x.2) ∙ lost)))
          ] in
          record {
            onward = one.onward;
            deeds = tells.0;
            number = tells.1;
            idle = call_idle start.commit_number IsOfBounce v w Pin (Err why) said.at (Err why) one;
            spares = spares_silent vaults name start.rate why own a tells.2;
          }

      -- it was made, and then what it shows was written
      pub bounced_by : (x : View (Held D V disk) Deed) (pin : ℕ) (what : Result ℕ Refusal) (m : Moved V)
          → said.what ≡ Ok pin → IsDone start.rate pin batch what (views w x) m
          → Bounced (origin disk vaults start) batch (record { at = said.at; what = what }) (views v x) m
      bounced_by x pin what m is k =
          let one = answered IsOfBounce disk vaults start v w Pin reply.Pinned said (inl refl) says pin is in
          let y = one.1 in
          let d : Deed = deed v.number Pin (Ok (reply.Pinned pin)) silent in
          let rest : List Deed = own_in (views w x) k.onward in
          let added : List Deed = one.0.added ++ k.onward.added in
          let all : List Deed = deeds_of (by_seat v.number) added in
          let own : all ≡ d ∷ rest =
          own_on IsOfBounce (IsAfterPin pin) v w x one.0 k.onward ∙ ap (λ (ds : List Deed). ds ++ rest) y.own in
          let are : added ≡ y.between ++ d ∷ k.onward.added =
          ap (λ (ds : List Deed). ds ++ k.onward.added) y.are ∙ append_assoc y.between (d ∷ []) k.onward.added in
          record {
            onward = onward_on IsOfBounce v w x one.0
                (onward_as (IsAfterPin pin) IsOfBounce w x (λ c after. inr (pin, after)) k.onward);
            deeds = subst (λ (ds : List Deed). BounceDeeds x.used_up batch what ds) (sym own)
                (refl, inl (pin, refl, k.after));
            number = subst (λ (ds : List Deed). TellsPin start.commit_number v.seen said.at added ds) (sym own)
                (y.between, k.onward.added, are, y.number);
            idle = λ used. absurd (true≢false (sym used ∙ y.unspent));
            spares = spares_front start.rate what m (d ∷ []) rest all own (mute_pinned d pin refl) k.spares;
          }
