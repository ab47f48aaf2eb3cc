-- What the calls of a seat tell it.
use Rattle.std.proofs.Common.{◌≡◌, ⊎_elim, ℕ, suc, ◌+◌, ◌-◌, ◌≤◌, ℤ, IsTrue, List, [], ◌∷◌, ◌++◌, length, take, Result}
use Rattle.std.proofs.Common.{Ok, Err, refl, sym, ap, ◌∙◌, subst, arith, length-append}
use Rattle.std.proofs.lemmas.List.{length-take-le}
use Rattle.std.specs.Prelude.{IfOk, OnOk}
use Rattle.pcm_base.specs.{declared.answer.Reply.Reply, declared.command.Call.Call, declared.entry.SoundMove.SoundMove}
use Rattle.pcm_base.specs.{declared.refusal.Refusal.Refusal, declared.said.Said.Said, Counters.commits_of}
use Rattle.disk_model.specs.declared.store.Store.{Ghosts}
use Rattle.edit_ports.specs.{Answers.AreTaken, Answers.numbered_pieces, declared.pieces.Taken.Taken}
use Rattle.pin_turn.specs.declared.view.View.{View}
use Rattle.editor_state.specs.{Core.Core, Took.as_reply}
use Rattle.studio_seats.specs.Deeds.{deed, entries_of, number_after}
use Rattle.studio_seats.specs.Desks.{Says, Spends, Turned, asked, views}
use Rattle.studio_seats.specs.{declared.deed.Deed.Deed, declared.held.Held.Held, Pins.is_made, Stands.origin}
use Rattle.studio_seats.proofs.{FrameLemmas.made_on, Grown.entries_append, Grown.number_append, Turns.number_on}
use Rattle.studio_seats.proofs.{Turns.turned_number}
use Rattle.seat_examples.specs.{declared.session.Session.Session, Jobs.IsReady}
use Rattle.edit_ports.specs.declared.vault.Vault as vault

-- a pin that was made stays so
pub made_still : (pin : ℕ) (seen seen' more : List Deed) → seen' ≡ seen ++ more → IsTrue (is_made pin (entries_of seen))
    → IsTrue (is_made pin (entries_of seen'))
made_still pin seen seen' more is h =
    subst (λ es. IsTrue (is_made pin es)) (sym (ap entries_of is ∙ entries_append seen more))
    (made_on pin (entries_of seen) (entries_of more) h)

-- what a seat knew of a session it knows still
pub ready_on : (s : Session) (first : ℕ) (seen seen' more : List Deed) → seen' ≡ seen ++ more → IsReady s first seen
    → IsReady s first seen'
ready_on s first seen seen' more is h = record {
  made = made_still s.pin seen seen' more is h.made;
  least = h.least;
  most =
      let on = number_on first seen more in
      let same = ap (number_after first) is in
      let most = h.most in
      omega (arith, most, on, same);
}

module _ {D V A : Type 0} (disk : Ghosts D) (vaults : vault.Ghosts V) (start : Core D) (v w : View (Held D V disk) Deed)
    (call : Call) (f : A → Reply) (sound : SoundMove) (commit : commits_of call ≡ 1) where
  abbrev Took : Result A Refusal → ℕ → Type 0
  Took what at = Turned (origin disk vaults start) (asked call (as_reply f what) sound) at (views v w)

  taken : (what : Result A Refusal) (at : ℕ) → Took what at → OnOk what (1 ≤ at)
  taken (Ok x) at h =
      let d = deed v.number call (Ok (f x)) sound in
      let before = number_after start.commit_number (v.seen ++ h.between) in
      let cut = number_append start.commit_number (v.seen ++ h.between) (d ∷ []) in
      let leads : at ≡ number_after before (d ∷ []) = h.number ∙ turned_number h ∙ cut in
      let one : number_after before (d ∷ []) ≡ before + 1 = ap (λ (k : ℕ). before + k) commit in
      omega (arith, leads, one)
  taken (Err why) at h = tt

  -- a commit that is carried out has a number from 1 on
  pub counted : (said : Said A)
      → Says (origin disk vaults start) (asked call (as_reply f said.what) sound) said (views v w)
      → OnOk said.what (1 ≤ said.at)
  counted said h = ⊎_elim
      (λ (x : Took said.what said.at). taken said.what said.at x)
      (λ (x : Spends v said w). subst (λ (r : Result A Refusal). OnOk r (1 ≤ said.at)) (sym x.what) tt)
      h

on_ok : {A : Type 0} (P : Type 0) (r : Result A Refusal) → P → OnOk r P
on_ok P (Ok x) h = h
on_ok P (Err why) h = tt

module _ {D V A : Type 0} (disk : Ghosts D) (vaults : vault.Ghosts V) (start : Core D) (v w : View (Held D V disk) Deed)
    (call : Call) (what : Result Reply Refusal) (sound : SoundMove) (said : Said A) where
  abbrev OneMore : Type 0
  OneMore = length w.mine ≡ length v.mine + 1

  -- what is answered in a turn is one turn more of the seat
  pub one_turn : Says (origin disk vaults start) (asked call what sound) said (views v w) → OnOk said.what OneMore
  one_turn h = ⊎_elim
      (λ (x : Turned (origin disk vaults start) (asked call what sound) said.at (views v w)).
      let place = length (v.seen ++ x.between) in
      let more = ap (λ (z : View (Held D V disk) Deed). length z.mine) x.view in
      let sum = length-append v.mine (place ∷ []) in
      on_ok OneMore said.what (omega (arith, more, sum)))
      (λ (x : Spends v said w). subst (λ (r : Result A Refusal). OnOk r OneMore) (sym x.what) tt)
      h

numbered_length : (n : ℕ) (chunks : List (List ℤ)) → length (numbered_pieces n chunks) ≡ length chunks
numbered_length n [] = refl
numbered_length n (c ∷ cs) = ap (λ (k : ℕ). suc k) (numbered_length (n + 1) cs)

-- as many pieces more as were taken
pub taken_more : (old new : List (List ℤ × ℕ)) (chunks : List (List ℤ)) (t : Taken) → AreTaken old chunks new t
    → length new ≡ length old + t.count
taken_more old new chunks t h =
    let all = ap length h.are in
    let sum = length-append old (numbered_pieces (t.last - t.count) (take t.count chunks)) in
    let numbered = numbered_length (t.last - t.count) (take t.count chunks) in
    let front = length-take-le t.count chunks h.few in
    omega (arith, all, sum, numbered, front)

-- what is told of an answer that is no refusal
pub told_ok : {A : Type 0} (P : A → Type 0) (r : Result A Refusal) → ((why : Refusal) → r ≡ Err why → ⊥) → IfOk r P
    → (x : A) × P x
told_ok P (Ok x) never h = (x, h)
told_ok P (Err why) never h = absurd (never why refl)

-- the same of a fact of the call alone
pub done_ok : {A : Type 0} (P : Type 0) (r : Result A Refusal) → ((why : Refusal) → r ≡ Err why → ⊥) → OnOk r P → P
done_ok P (Ok x) never h = h
done_ok P (Err why) never h = absurd (never why refl)
