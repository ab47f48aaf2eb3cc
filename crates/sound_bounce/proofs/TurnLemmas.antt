-- One call of a bounce, by what it was answered.
use Rattle.sound_bounce.proofs.Common.{◌≡◌, inl, inr, refl, ap, subst, Result, Ok, Err, Reply, Call, Refusal, Said}
use Rattle.sound_bounce.proofs.Common.{Ghosts, View, Core, silent, as_reply, Deed, Held, deed, Says, asked, spent}
use Rattle.sound_bounce.proofs.Common.{views, by_seat, deeds_of, origin, IsTaken, OneCall, one_call, reason_or}
use Rattle.sound_bounce.proofs.Common.{IsRefusedBy, own_in}
use Rattle.studio_seats.specs.Onward.{Onward}
use Rattle.edit_ports.specs.declared.vault.Vault as vault

module _ {D V A : Type 0} (fits : Call → Type 0) (disk : Ghosts D) (vaults : vault.Ghosts V) (start : Core D)
    (v w : View (Held D V disk) Deed) (call : Call) (f : A → Reply) (said : Said A) (fit : fits call)
    (says : Says (origin disk vaults start) (asked call (as_reply f said.what) silent) said (views v w)) where
  -- one call, by its answer
  pub call_as : (r : Result A Refusal) → said.what ≡ r
      → OneCall start.commit_number fits v w call (as_reply f r) said.at r
  call_as r is =
      subst (λ (z : Result A Refusal). OneCall start.commit_number fits v w call (as_reply f z) said.at z) is
      (one_call fits disk vaults start v w call (as_reply f said.what) said fit says)

  -- its turn was taken
  pub answered : (x : A) → said.what ≡ Ok x → (on : Onward fits v w)
      × IsTaken start.commit_number v w (deed v.number call (Ok (f x)) silent) said.at on.added
  answered x is = let one = call_as (Ok x) is in
      elim one.how [ inl taken ↦ (one.onward, taken) | inr none ↦ absurd (cc none.2) ]

  -- it was refused, or no turn was left
  pub refused : (why : Refusal) → said.what ≡ Err why
      → (on : Onward fits v w) × IsRefusedBy w.used_up call why (own_in (views v w) on)
  refused why is = let one = call_as (Err why) is in (
    one.onward,
    elim one.how [
      | inl taken ↦ inl (deed v.number call (Err why) silent, taken.own, refl, refl)
      | inr none ↦ inr (ap (deeds_of (by_seat v.number)) none.0, ap (reason_or spent) none.2, none.3)
    ],
  )
