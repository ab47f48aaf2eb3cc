-- A seat at a desk as an editor, turn by turn.
use Rattle.std.proofs.Common.{◌≡◌, inl, inr, ⊎_elim, ℕ, ◌≤◌, Bool, true, false, IsSome, Option, Some, None, List, []}
use Rattle.std.proofs.Common.{◌∷◌, ◌++◌, Result, Ok, Err, refl, sym, ◌∙◌, ap, subst, arith, max}
use Rattle.std.proofs.lemmas.List.{append-nil}
use Rattle.pcm_base.specs.declared.{answer.Reply.Reply, answer.Reply.TheVariants.Refused, command.Call.Call}
use Rattle.pcm_base.specs.declared.{command.Call.TheVariants.Line, command.Command.Command, entry.SoundMove.SoundMove}
use Rattle.pcm_base.specs.declared.{refusal.Refusal.Refusal, said.Said.Said}
use Rattle.pcm_base.specs.{Run.Heard, Run.name_in_line, Form.IsTurn, Outside.Sounds}
use Rattle.disk_model.specs.declared.store.Store.{Ghosts}
use Rattle.pin_turn.specs.declared.view.View.{View}
use Rattle.editor_state.specs.Applied.{IsTold, move_of, reply_of}
use Rattle.editor_state.specs.{Core.Core, Vaults.VaultCounted, Took.as_reply}
use Rattle.studio_seats.specs.Desks.{Says, Spends, Turned, asked, views}
use Rattle.studio_seats.specs.Deeds.{deed, number_after}
use Rattle.studio_seats.specs.{declared.deed.Deed.Deed, declared.held.Held.Held, Stands.origin, Onward.Onward}
use Rattle.studio_seats.proofs.OnwardLemmas.{onward_on, onward_turn}
use Rattle.studio_seats.proofs.Turns.{number_on, said_number, turned_number}
use Rattle.script_reader.specs.Place.{CountsFaults, Enters, made_commit, place_of, with_number}
use Rattle.script_reader.specs.{Answering.Turn, Calls.IsOfScript}
use Rattle.edit_ports.specs.declared.vault.Vault as vault

module _ {D V : Type 0} (disk : Ghosts D) (vaults : vault.Ghosts V) (start : Core D) where
  -- the number that a turn tells
  number_at : (v w : View (Held D V disk) Deed) (c : Call) (what : Result Reply Refusal) (sound : SoundMove) (at : ℕ)
      (h : Turned (origin disk vaults start) (asked c what sound) at (views v w))
      → at ≡ number_after start.commit_number ((v.seen ++ h.between) ++ deed v.number c what sound ∷ [])
  number_at v w c what sound at h = h.number ∙ turned_number h

  -- a line is a call of the script
  pub line_goes : {A : Type 0} (u v w : View (Held D V disk) Deed) (c : Command) (what : Result Reply Refusal)
      (sound : SoundMove) (said : Said A) → Says (origin disk vaults start) (asked (Line c) what sound) said (views v w)
      → Onward IsOfScript u v → Onward IsOfScript u w
  line_goes u v w c what sound said says on = onward_on IsOfScript u v w on
      (onward_turn IsOfScript disk vaults start v w (Line c) what sound said (inl (c, refl)) says)

  -- is no lower than one that was told before
  number_up : (v w : View (Held D V disk) Deed) (c : Call) (what : Result Reply Refusal) (sound : SoundMove)
      (at last : ℕ)
      → Turned (origin disk vaults start) (asked c what sound) at (views v w)
      → last ≤ number_after start.commit_number v.seen → last ≤ at
  number_up v w c what sound at last h low =
      let one = number_on start.commit_number v.seen h.between in
      let two = number_on start.commit_number (v.seen ++ h.between) (deed v.number c what sound ∷ []) in
      let is = number_at v w c what sound at h in omega (arith, low, one, two, is)

  seen_more : (v w : View (Held D V disk) Deed) (c : Call) (what : Result Reply Refusal) (sound : SoundMove)
      {A : Type 0} (said : Said A) → Says (origin disk vaults start) (asked c what sound) said (views v w)
      → number_after start.commit_number v.seen ≤ number_after start.commit_number w.seen
  seen_more v w c what sound {A} said h = ⊎_elim
      (λ x.
      let one = number_on start.commit_number v.seen x.between in
      let two = number_on start.commit_number (v.seen ++ x.between) (deed v.number c what sound ∷ []) in
      let seen = ap (λ (z : View (Held D V disk) Deed). number_after start.commit_number z.seen) x.view in
      omega (arith, one, two, seen))
      (λ x.
      let seen = ap (λ (z : View (Held D V disk) Deed). number_after start.commit_number z.seen) x.view in
      omega (arith, seen))
      h

  pub stays_low : (v w : View (Held D V disk) Deed) (c : Call) (what : Result Reply Refusal) (sound : SoundMove)
      {A : Type 0} (said : Said A) (last : ℕ) → Says (origin disk vaults start) (asked c what sound) said (views v w)
      → last ≤ number_after start.commit_number v.seen → max last said.at ≤ number_after start.commit_number w.seen
  stays_low v w c what sound {A} said last h low =
      let more = seen_more v w c what sound said h in
      let at = said_number disk vaults start v w c what sound said h in
      omega (arith, low, more, at)

  -- what a line leaves of the place, where the vault has these sounds and faults before and after it
  module _ (v w : View (Held D V disk) Deed) (c : Command) (tells : Bool) (before after : Sounds) (old new : ℕ) where
    abbrev sound : SoundMove
    sound = move_of (name_in_line c) before after

    -- a turn that told its number
    enters : (what : Result Reply Refusal) (at last : ℕ) (numbers numbers' : List ℕ)
        → Turned (origin disk vaults start) (asked (Line c) what sound) at (views v w)
        → last ≤ number_after start.commit_number v.seen
        → numbers' ≡ with_number (made_commit what c) numbers at
        → (IsTold (Line c) tells → Heard (name_in_line c) sound before after)
        → CountsFaults (name_in_line c) what old new
        → Enters (place_of start v last numbers tells before old) c (reply_of what)
        (place_of start w (max last at) numbers' tells after new)
    enters what at last numbers numbers' h low listed heard counted =
        let n = number_after start.commit_number ((v.seen ++ h.between) ++ deed v.number (Line c) what sound ∷ []) in
        let is : at ≡ n = number_at v w (Line c) what sound at h in
        let up = number_up v w (Line c) what sound at last h low in
        let same : max last at ≡ at = omega (arith, up) in
        let told : max last at ≡ n = same ∙ is in
        let list : numbers' ≡ with_number (made_commit what c) numbers n =
        listed ∙ ap (λ (m : ℕ). with_number (made_commit what c) numbers m) is in
        record {
          unspent = h.unspent;
          between = h.between;
          by_others = h.by_others;
          what = what;
          reply = refl;
          after = λ i. place_of start (h.view i) (told i) (list i) tells after new;
          heard = heard;
          counted = counted;
        }

    -- none was left
    spends : {A : Type 0} (said : Said A) (last : ℕ) (numbers : List ℕ) → Spends v said w → after ≡ before → new ≡ old
        → place_of start w (max last said.at) numbers tells after new
        ≡ record (place_of start v last numbers tells before old) { used_up = true }
    spends {A} said last numbers h same quiet =
        let none = h.at in
        let stays : max last said.at ≡ last = omega (arith, none) in
        λ i. place_of start (h.view i) (stays i) numbers tells (same i) (quiet i)

    -- the count of faults, by what a turn told of it
    counts : (name : Option (List ℕ)) (r : Reply) (what : Result (Unit {0}) Refusal)
        → (IsSome name → VaultCounted what old new)
        → (name ≡ None → new ≡ old) → CountsFaults name (as_reply (λ _. r) what) old new
    counts None r what named silent = silent refl
    counts (Some name) r (Ok x) named silent = named refl
    counts (Some name) r (Err why) named silent = named refl

    module _ (r : Reply) (said : Said (Unit {0})) (last : ℕ) (numbers : List ℕ)
        (says : Says (origin disk vaults start) (asked (Line c) (as_reply (λ _. r) said.what) sound) said (views v w))
        (low : last ≤ number_after start.commit_number v.seen)
        (heard : IsTold (Line c) tells → Heard (name_in_line c) sound before after)
        (named : w.used_up ≡ false → IsSome (name_in_line c) → VaultCounted said.what old new)
        (silent : name_in_line c ≡ None → new ≡ old) (turn : IsTurn c) where
      -- a turn that was answered so
      told : (what : Result (Unit {0}) Refusal) (numbers' : List ℕ) → said.what ≡ what
          → Turned (origin disk vaults start) (asked (Line c) (as_reply (λ _. r) said.what) sound) said.at (views v w)
          → numbers' ≡ with_number (made_commit (as_reply (λ _. r) what) c) numbers said.at
          → Enters (place_of start v last numbers tells before old) c (reply_of (as_reply (λ _. r) what))
          (place_of start w (max last said.at) numbers' tells after new)
      told what numbers' is x listed =
          let unspent : w.used_up ≡ false = ap (λ (z : View (Held D V disk) Deed). z.used_up) x.view ∙ x.unspent in
          enters (as_reply (λ _. r) what) said.at last numbers numbers'
          (subst (λ (z : Result (Unit {0}) Refusal).
          Turned (origin disk vaults start) (asked (Line c) (as_reply (λ _. r) z) sound) said.at (views v w)) is x)
          low listed heard
          (subst (λ (z : Result (Unit {0}) Refusal). CountsFaults (name_in_line c) (as_reply (λ _. r) z) old new) is
          (counts (name_in_line c) r said.what (named unspent) silent))

      pub ok_turn : (numbers' : List ℕ) → said.what ≡ Ok tt
          → numbers' ≡ with_number (made_commit (Ok r) c) numbers said.at
          → Turn (place_of start v last numbers tells before old) (Ok c) r
          (place_of start w (max last said.at) numbers' tells after new)
      ok_turn numbers' ok listed = ⊎_elim (λ x. inl (turn, told (Ok tt) numbers' ok x listed))
          (λ x. absurd (cc (sym ok ∙ x.what))) says

      pub err_turn : (reason : Refusal) → said.what ≡ Err reason
          → (w.used_up ≡ true → (after ≡ before) × (new ≡ old))
          → Turn (place_of start v last numbers tells before old) (Ok c) (Refused reason)
          (place_of start w (max last said.at) numbers tells after new)
      err_turn reason err still = ⊎_elim
          (λ x. inl (turn, told (Err reason) numbers err x (sym (append-nil numbers))))
          (λ x.
          let same = still (ap (λ (z : View (Held D V disk) Deed). z.used_up) x.view) in
          inr (inl (cc (sym err ∙ x.what), spends said last numbers x same.0 same.1)))
          says
