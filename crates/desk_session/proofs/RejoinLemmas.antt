-- A seat is split in three, and joined again.
use Rattle.std.proofs.Common.{◌≡◌, ◌⊎◌, ⊎_elim, ℕ, ◌<◌, Bool, true, false, ◌||◌, List, [], ◌∷◌, ◌++◌, length, refl, sym}
use Rattle.std.proofs.Common.{◌∙◌, ap, subst, append_assoc}
use Rattle.std.proofs.lemmas.List.{append-nil}
use Rattle.pcm_base.specs.declared.command.Call.{Call}
use Rattle.disk_model.specs.declared.store.Store.{Ghosts}
use Rattle.pin_turn.specs.Counts.{Each, longer, times}
use Rattle.pin_turn.specs.{declared.view.View.View, Views.joined, Rule.IsNewNumber, Calls.Begins}
use Rattle.pin_turn.proofs.Calls.{first_longer, rejoins, second_longer}
use Rattle.studio_seats.specs.Onward.{Asks, Onward, places_of}
use Rattle.studio_seats.specs.{declared.deed.Deed.Deed, declared.held.Held.Held, Deeds.actor_of, Merge.by_seat}
use Rattle.studio_seats.proofs.{OnwardLemmas.places_others, MergeLemmas.lower_others}
use Rattle.script_reader.specs.Calls.{IsOfScript}
use Rattle.desk_session.specs.Parts.{NewPart, Part, Rejoined}
use Rattle.desk_session.proofs.PartLemmas.{places_behind}

or_true : (b : Bool) → (b || true) ≡ true
or_true true = refl
or_true false = refl

last_of : (a : List ℕ) (P : ℕ → Type 0) (n : ℕ) → Each P (a ++ n ∷ []) → P n
last_of [] P n h = h.0
last_of (x ∷ xs) P n h = last_of xs P n h.1

module _ {D V : Type 0} {disk : Ghosts D} where
  -- of two lists of which the shorter begins the longer, the longer goes on from each
  both_begin : (v w : View (Held D V disk) Deed) → Begins actor_of v w ⊎ Begins actor_of w v
      → ((more : List Deed) × (longer v.seen w.seen ≡ v.seen ++ more))
      × ((more : List Deed) × (longer v.seen w.seen ≡ w.seen ++ more))
  both_begin v w h = ⊎_elim
      (λ (b : Begins actor_of v w). (
        (b.more, second_longer actor_of v w b ∙ b.longer),
        ([], second_longer actor_of v w b ∙ sym (append-nil w.seen)),
      ))
      (λ (b : Begins actor_of w v). (
        ([], first_longer actor_of v w b ∙ sym (append-nil v.seen)),
        (b.more, first_longer actor_of v w b ∙ b.longer),
      ))
      h

  part_of : (fits : Call → Type 0) (u v w : View (Held D V disk) Deed) → v.seen ≡ u.seen
      → (u.used_up ≡ true → v.used_up ≡ true) → Onward fits v w → Part fits u w
  part_of fits u v w same known o = record {
    added = o.added;
    seen = o.seen ∙ ap (λ (l : List Deed). l ++ o.added) same;
    asks = subst (λ (n : ℕ). Asks fits n o.added) (sym o.number) o.asks;
    used_up = λ is. o.used_up (known is);
  }

  -- a seat that was split off
  new_part : (fits : Call → Type 0) (v o w : View (Held D V disk) Deed)
      → o ≡ record v { number = o.number; mine = []; away = [] } → v.number < o.number
      → Each (λ e. e.actor < o.number) v.seen → Onward fits o w → NewPart fits v w
  new_part fits v o w new above unseen on =
      let seen : o.seen ≡ v.seen = ap (λ (z : View (Held D V disk) Deed). z.seen) new in
      let none : places_of (by_seat o.number) 0 o.seen ≡ [] = places_others o.number 0 o.seen
      (lower_others o.number o.seen (subst (λ (l : List Deed). Each (λ e. e.actor < o.number) l) (sym seen) unseen)) in
      let whole : places_of (by_seat o.number) 0 w.seen ≡ places_of (by_seat o.number) (length o.seen) on.added =
      ap (λ (l : List Deed). places_of (by_seat o.number) 0 l) on.seen
      ∙ (places_behind (by_seat o.number) o.seen on.added
      ∙ ap (λ (l : List ℕ). l ++ places_of (by_seat o.number) (length o.seen) on.added) none) in
      record {
        part = part_of fits v o w seen (λ is. ap (λ (z : View (Held D V disk) Deed). z.used_up) new ∙ is) on;
        above = subst (λ (n : ℕ). v.number < n) (sym on.number) above;
        unseen = subst (λ (n : ℕ). Each (λ e. e.actor < n) v.seen) (sym on.number) unseen;
        mine = on.mine
            ∙ (ap (λ (l : List ℕ). l ++ places_of (by_seat o.number) (length o.seen) on.added)
            (ap (λ (z : View (Held D V disk) Deed). z.mine) new)
            ∙ (sym whole ∙ ap (λ (n : ℕ). places_of (by_seat n) 0 w.seen) (sym on.number)));
      }

  -- the seat itself
  pub own_mine : (fits : Call → Type 0) (v w : View (Held D V disk) Deed) → Onward fits v w
      → v.mine ≡ places_of (by_seat v.number) 0 v.seen → w.mine ≡ places_of (by_seat v.number) 0 w.seen
  own_mine fits v w on is = on.mine
      ∙ (ap (λ (l : List ℕ). l ++ places_of (by_seat v.number) (length v.seen) on.added) is
      ∙ sym (ap (λ (l : List Deed). places_of (by_seat v.number) 0 l) on.seen
      ∙ places_behind (by_seat v.number) v.seen on.added))

  module _ {pieces reads : Call → Type 0} {v v1 r v2 p script recorder player : View (Held D V disk) Deed}
      (kept : v1 ≡ record v { away = v.away ++ r.number ∷ [] })
      (new : r ≡ record v { number = r.number; mine = []; away = [] }) (number : IsNewNumber actor_of v r.number)
      (kept2 : v2 ≡ record v1 { away = v1.away ++ p.number ∷ [] })
      (new2 : p ≡ record v1 { number = p.number; mine = []; away = [] }) (number2 : IsNewNumber actor_of v1 p.number)
      (on : Onward IsOfScript v2 script) (rec : Onward pieces r recorder) (play : Onward reads p player) where
    -- the player's seat may be taken in
    pub first_join : (0 < times player.number script.away) × (player.away ≡ [])
        × ((joined script player).away ≡ v1.away)
    first_join = rejoins actor_of v1 v2 script p player kept2 new2 number2 on.away play.number play.away

    -- and then the recorder's
    pub second_join : (j : View (Held D V disk) Deed) → j ≡ joined script player
        → (0 < times recorder.number j.away) × (recorder.away ≡ []) × ((joined j recorder).away ≡ v.away)
    second_join j is = rejoins actor_of v v1 j r recorder kept new number
        ((λ i. (is i).away) ∙ first_join.2) rec.number rec.away

    pub rejoined : (j w : View (Held D V disk) Deed) → j ≡ joined script player → w ≡ joined j recorder
        → Begins actor_of script player ⊎ Begins actor_of player script
        → Begins actor_of j recorder ⊎ Begins actor_of recorder j
        → Rejoined pieces reads (record { seat = v; script = script; recorder = recorder; player = player; joined = w })
    rejoined j w is is2 alike alike2 =
        let seen1 : v1.seen ≡ v.seen = λ i. (kept i).seen in
        let seen2 : v2.seen ≡ v.seen = (λ i. (kept2 i).seen) ∙ seen1 in
        let number1 : v1.number ≡ v.number = λ i. (kept i).number in
        let number_2 : v2.number ≡ v.number = (λ i. (kept2 i).number) ∙ number1 in
        let mine2 : v2.mine ≡ v.mine = (λ i. (kept2 i).mine) ∙ (λ i. (kept i).mine) in
        let one = both_begin script player alike in
        let two = both_begin j recorder alike2 in
        let j_seen : j.seen ≡ longer script.seen player.seen = λ i. (is i).seen in
        let w_seen : w.seen ≡ longer j.seen recorder.seen = λ i. (is2 i).seen in
        let j_used : j.used_up ≡ (script.used_up || player.used_up) = λ i. (is i).used_up in
        let w_used : w.used_up ≡ (j.used_up || recorder.used_up) = λ i. (is2 i).used_up in
        let w_j : w.seen ≡ j.seen ++ two.0.0 = w_seen ∙ two.0.1 in
        let below : r.number < p.number = last_of v.away (λ k. k < p.number) r.number
        (subst (λ (l : List ℕ). Each (λ k. k < p.number) l) (λ i. (kept i).away) number2.above_away) in
        record {
          by_script = part_of IsOfScript v v2 script seen2
              (λ used. (λ i. (kept2 i).used_up) ∙ (λ i. (kept i).used_up) ∙ used) on;
          script_number = on.number ∙ number_2;
          by_recorder = new_part pieces v r recorder new number.above_own number.above_makers rec;
          by_player = new_part reads v p player
              (new2 ∙ ap (λ (z : View (Held D V disk) Deed). record z { number = p.number; mine = []; away = [] }) kept)
              (subst (λ (n : ℕ). n < p.number) number1 number2.above_own)
              (subst (λ (l : List Deed). Each (λ e. e.actor < p.number) l) seen1 number2.above_makers) play;
          apart = subst (λ (z : ℕ × ℕ). z.0 < z.1) (λ i. (sym rec.number i, sym play.number i)) below;
          more_script = one.0.0 ++ two.0.0;
          script_is = w_j
              ∙ (ap (λ (l : List Deed). l ++ two.0.0) (j_seen ∙ one.0.1) ∙ append_assoc script.seen one.0.0 two.0.0);
          more_recorder = two.1.0;
          recorder_is = w_seen ∙ two.1.1;
          more_player = one.1.0 ++ two.0.0;
          player_is = w_j
              ∙ (ap (λ (l : List Deed). l ++ two.0.0) (j_seen ∙ one.1.1) ∙ append_assoc player.seen one.1.0 two.0.0);
          mine = (λ i. (is2 i).mine) ∙ (λ i. (is i).mine ++ recorder.mine);
          number = (λ i. (is2 i).number) ∙ (λ i. (is i).number) ∙ on.number ∙ number_2;
          away = (λ i. (is2 i).away) ∙ (second_join j is).2;
          script_spent = λ h. w_used ∙ (λ i. j_used i || recorder.used_up)
              ∙ (λ i. (h i || player.used_up) || recorder.used_up);
          recorder_spent = λ h. w_used ∙ (λ i. j.used_up || h i) ∙ or_true j.used_up;
          player_spent = λ h. w_used ∙ (λ i. j_used i || recorder.used_up)
              ∙ (λ i. (script.used_up || h i) || recorder.used_up)
              ∙ (λ i. or_true script.used_up i || recorder.used_up);
          script_mine = λ own. own_mine IsOfScript v2 script on
              (mine2 ∙ (own ∙ (λ i. places_of (by_seat (sym number_2 i)) 0 (sym seen2 i))))
              ∙ ap (λ (n : ℕ). places_of (by_seat n) 0 script.seen) number_2;
        }
