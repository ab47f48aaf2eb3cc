-- One call of a seat, and the own deed that it is.
use Rattle.studio_seats.proofs.Common.{◌≡◌, ◌⊎◌, inl, inr, ℕ, ◌<◌, true, false, List, [], ◌∷◌, ◌++◌}
use Rattle.studio_seats.proofs.Common.{length, append_assoc, refl, sym, ◌∙◌, ap, arith, Result, Ok, Err, true≢false}
use Rattle.studio_seats.proofs.Common.{length-append, Reply, Call, COUNTER_LIMIT, Refusal, Said, Ghosts, View, Core}
use Rattle.studio_seats.proofs.Common.{silent, Says, Spends, Turned, asked, spent, views, Deed, Held, deed}
use Rattle.studio_seats.proofs.Common.{number_after, by_seat, deeds_of, Onward, origin, VaultGhosts}
use Rattle.studio_seats.proofs.OnwardLemmas.{onward_self, onward_spent, onward_taken}
use Rattle.studio_seats.proofs.{MergeLemmas.deeds_append, Turns.turned_number, WorkLemmas.own_turn}

-- a turn was taken: after deeds of others comes this one, which is the seat's own
pub record IsTaken {D V : Type 0} {disk : Ghosts D} (first : ℕ) (v w : View (Held D V disk) Deed) (d : Deed) (at : ℕ)
    (added : List Deed) : Type 0 where
  pub between : List Deed
  pub are : added ≡ between ++ d ∷ []
  pub own : deeds_of (by_seat v.number) added ≡ d ∷ []
  pub longer : length v.seen < length w.seen
  pub few : length v.seen < COUNTER_LIMIT
  pub unspent : v.used_up ≡ false
  pub number : at ≡ number_after first (v.seen ++ (between ++ d ∷ []))

-- the reason of a refusal
abbrev pub reason_or : {A : Type 0} → Refusal → Result A Refusal → Refusal
reason_or other (Ok x) = other
reason_or other (Err why) = why

-- none was left
abbrev pub NoTurn : {D V A : Type 0} {disk : Ghosts D} → View (Held D V disk) Deed → ℕ → Result A Refusal → List Deed
    → Type 0
NoTurn w at told added = (added ≡ []) × (at ≡ 0) × (told ≡ Err spent) × (w.used_up ≡ true)

-- one call: its turn was taken, or none was left
pub record OneCall {D V A : Type 0} {disk : Ghosts D} (first : ℕ) (fits : Call → Type 0)
    (v w : View (Held D V disk) Deed) (c : Call)
    (what : Result Reply Refusal) (at : ℕ) (told : Result A Refusal) : Type 0 where
  pub onward : Onward fits v w
  pub how : IsTaken first v w (deed v.number c what silent) at onward.added
      ⊎ NoTurn w at told onward.added

module _ {D V A : Type 0} (fits : Call → Type 0) (disk : Ghosts D) (vaults : VaultGhosts V) (start : Core D)
    (v w : View (Held D V disk) Deed) (c : Call) (what : Result Reply Refusal) (said : Said A) (fit : fits c) where
  taken : Turned (origin disk vaults start) (asked c what silent) said.at (views v w)
      → OneCall start.commit_number fits v w c what said.at said.what
  taken x =
      let d : Deed = deed v.number c what silent in
      record {
        onward = onward_taken fits disk vaults start v w c what silent said.at fit x;
        how = inl (record {
          between = x.between;
          are = refl;
          own = own_turn fits v v (onward_self fits v) x.between d refl x.by_others;
          longer = rw x.view
              (omega (arith, length-append (v.seen ++ x.between) (d ∷ []), length-append v.seen x.between));
          few = omega (arith, x.few, length-append v.seen x.between);
          unspent = x.unspent;
          number = x.number ∙ turned_number x
              ∙ ap (number_after start.commit_number) (append_assoc v.seen x.between (d ∷ []));
        });
      }

  spends : Spends v said w → OneCall start.commit_number fits v w c what said.at said.what
  spends x = record {
    onward = onward_spent fits disk vaults start v w c what silent x.view;
    how = inr (refl, x.at, x.what, rw x.view);
  }

  pub one_call : Says (origin disk vaults start) (asked c what silent) said (views v w)
      → OneCall start.commit_number fits v w c what said.at said.what
  one_call (inl x) = taken x
  one_call (inr x) = spends x

-- a seat that knew that no turn is left saw nothing
pub call_idle : {D V A : Type 0} {disk : Ghosts D} (first : ℕ) (fits : Call → Type 0)
    (v w : View (Held D V disk) Deed) (c : Call)
    (what : Result Reply Refusal) (at : ℕ) (told : Result A Refusal) (h : OneCall first fits v w c what at told)
    → v.used_up ≡ true → h.onward.added ≡ []
call_idle first fits v w c what at told h used =
    elim h.how [ inl x ↦ absurd (true≢false (sym used ∙ x.unspent)) | inr x ↦ x.0 ]

-- the own deeds of a seat that went on twice
pub own_on : {D V : Type 0} {disk : Ghosts D} (one two : Call → Type 0) (u v w : View (Held D V disk) Deed)
    (h : Onward one u v) (k : Onward two v w)
    → deeds_of (by_seat u.number) (h.added ++ k.added)
    ≡ deeds_of (by_seat u.number) h.added ++ deeds_of (by_seat v.number) k.added
own_on one two u v w h k = rw h.number (deeds_append (by_seat u.number) h.added k.added)
