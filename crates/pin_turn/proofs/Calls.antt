-- One call under the turn, put together.
use Rattle.std.proofs.Common.{◌<◌, ◌^◌, ◌≡◌, ◌⊎◌, inl, inr, ⊎_elim, arith, ℕ, ◌≤◌, List, [], ◌∷◌, ◌++◌}
use Rattle.std.proofs.Common.{length, sym, ap, ◌∙◌, subst, Some, None, Option}
use Rattle.std.specs.Fn.{Mut, CalledAtMut}
use Rattle.atomic_table.specs.{Table.Me, Table.step, declared.shared.Seat.Seat}
use Rattle.pin_turn.specs.Rule.{Took, ByOthers, IsNewNumber, compared}
use Rattle.pin_turn.specs.Calls.{FitsTurn, Begins, TookTurn, addition, called_as, meaning}
use Rattle.pin_turn.specs.Counts.{times, without, longer, shorter, of_shorter}
use Rattle.pin_turn.specs.{declared.view.Stage.TheVariants.Resting, declared.view.Stage.TheVariants.Holding}
use Rattle.pin_turn.specs.{declared.view.View.View, Views.settled, Views.hearing, Views.joined}
use Rattle.pin_turn.proofs.Sums.{FirstLonger, SecondLonger, sorted_cases, whole_if_long, without_last, times_last}
use denote.Ref.{MutBor}
use mathlib.Core.Option.{none}

-- the value in the slot that was taken last
abbrev held_or : {S : Type 0} → S → List (ℕ × S) → S
held_or d [] = d
held_or d (x ∷ xs) = x.1

module _ {T E : Type 0} where
  pub is_settled : (p : Seat (Option T) (View T E)) → p.me.0.stage ≡ Resting → p.me.1 ≡ [] → p ≡ settled p
  is_settled p a b = λ i. record p { me = (record p.me.0 { stage = a i }, b i) }

  -- the seat after a step that left it at rest
  pub rests : (p : Seat (Option T) (View T E)) (w : View T E) → p.me ≡ (w, []) → w.stage ≡ Resting → p ≡ settled p
  rests p w e sits = is_settled p (ap (λ (m : Me (Option T) (View T E)). m.0.stage) e ∙ sits)
      (ap (λ (m : Me (Option T) (View T E)). m.1) e)

  module _ {F R : Type 0} {stands : T → T → List E → Type 0} {maker : E → ℕ} {start : T}
      {G : Mut F (MutBor T × Unit {0}) (R × (MutBor T × Unit {0}))} {f f' : F} {added : R → F → List E} {r : R}
      {m0 m1 m2 m3 : Me (Option T) (View T E)} {n : ℕ} {x : Option T} {value value' : T}
      (room : n < 2 ^ 63) (bare : m0.1 ≡ []) (from_start : m0.0.start ≡ Some start)
      (took : Took stands maker record { before = m0; word = n; after = m1 })
      (out : m1.1 ≡ (0, x) ∷ []) (e2 : m2 ≡ (m1.0, (0, None) ∷ [])) (is : x ≡ Some value)
      (called : CalledAtMut G f value r f' value') (e3 : m3 ≡ (m2.0, (0, Some value') ∷ []))
      (fits : FitsTurn (meaning stands maker start) m0.0 G f added) where
    same_value : took.value ≡ value
    same_value = let h : Some took.value ≡ x = ap (held_or x) (sym took.hand ∙ out) in cc

    same_view : m3.0 ≡ record m0.0 { seen = m0.0.seen ++ took.between; stage = Holding }
    same_view =
        ap (λ (m : Me (Option T) (View T E)). m.0) e3 ∙ (ap (λ (m : Me (Option T) (View T E)). m.0) e2 ∙ took.view)

    few : length (m0.0.seen ++ took.between) < 2 ^ 62
    few = let t = took.turns in omega arith

    stood : stands start value (m0.0.seen ++ took.between)
    stood = subst (λ (y : T). stands start y (m0.0.seen ++ took.between)) same_value (took.stand start from_start)

    pub gives_value : (y : T) × (m3.1 ≡ (0, Some y) ∷ [])
        × ((st : T) → m3.0.start ≡ Some st → stands st y (m3.0.seen ++ added r f'))
    gives_value = (
      value',
      ap (λ (m : Me (Option T) (View T E)). m.1) e3,
      λ st is_st. let same : start ≡ st = cc (ap (λ (v : View T E). v.start) same_view) in
          subst (λ (z : T × List E). stands z.0 value' (z.1 ++ added r f'))
          (λ i. (same i, sym (ap (λ (v : View T E). v.seen) same_view) i))
          (fits.leaves took.between value took.by_others few stood r f' value' called),
    )

    pub gives_entry : (e : E) × (added r f' ≡ e ∷ []) × (maker e ≡ m3.0.number)
    gives_entry = let h = fits.by_seat r f' in (h.0, h.1, h.2 ∙ sym (ap (λ (v : View T E). v.number) same_view))

    pub turned : (w : View T E)
        → w ≡ record m3.0 { seen = m3.0.seen ++ added r f'; mine = m3.0.mine ++ length m3.0.seen ∷ []; stage = Resting }
        → m0.0.stage ≡ Resting
        → TookTurn (meaning stands maker start) G (called_as f r f') (addition m0.0 (added r f') w)
    turned w e sits = record {
      between = took.between;
      by_others = took.by_others;
      value = value;
      value' = value';
      few = few;
      unspent = took.unspent;
      stood = stood;
      called = called;
      view = e ∙ (ap (λ (v : View T E). let u : View T E = record v {
        seen = v.seen ++ added r f';
        mine = v.mine ++ length v.seen ∷ [];
        stage = Resting;
      } in u) same_view
          ∙ ap (λ g. let u : View T E = record m0.0 {
            seen = (m0.0.seen ++ took.between) ++ added r f';
            mine = m0.0.mine ++ length (m0.0.seen ++ took.between) ∷ [];
            stage = g;
          } in u) (sym sits));
    }

  -- the list that was compared begins the other, which is as long at least
  told_begins : (maker : E → ℕ) (v w : View T E) (seen told : List E) (owner : ℕ) → seen ≡ w.seen → told ≡ v.seen
      → owner ≡ v.number → length v.seen ≤ length w.seen
      → (length told ≤ length seen → (more : List E) × (seen ≡ told ++ more) × ByOthers maker (owner ∷ []) more)
      → Begins maker v w
  told_begins maker v w seen told owner long short by few tells =
      let l1 : length seen ≡ length w.seen = ap length long in
      let l2 : length told ≡ length v.seen = ap length short in
      let b = tells (omega arith) in
      record {
        more = b.0;
        longer = sym long ∙ (b.1 ∙ ap (λ (l : List E). l ++ b.0) short);
        by_others = subst (λ (z : ℕ). ByOthers maker (z ∷ []) b.0) by b.2;
      }

  -- what the compare step tells after a seat took in another
  pub hears : (maker : E → ℕ) (v w : View T E) (cs : List (ℕ × Option T)) (m m' : Me (Option T) (View T E))
      → v.stage ≡ Resting → m ≡ (hearing v w, cs) → compared maker (step 0 0 0 0 none) m 0 m'
      → (m' ≡ (joined v w, cs)) × (Begins maker v w ⊎ Begins maker w v)
  hears maker v w cs m m' sits is told =
      let k : ℕ = w.number in
      let owner : ℕ = of_shorter v.seen w.seen v.number w.number in
      let list : List E = shorter v.seen w.seen in
      let t = told k owner list (ap (λ (z : Me (Option T) (View T E)). z.0.stage) is) in
      let seen : m.0.seen ≡ longer v.seen w.seen = ap (λ (z : Me (Option T) (View T E)). z.0.seen) is in (
        t.0 ∙ (ap (λ (z : Me (Option T) (View T E)). let u : View T E = record z.0 {
          away = without k z.0.away;
          stage = Resting;
        } in (u, z.1)) is
            ∙ ap (λ g. let u : View T E = record (joined v w) { stage = g } in (u, cs)) (sym sits)),
        ⊎_elim
            (λ (c : FirstLonger v.seen w.seen v.number w.number).
            inr (told_begins maker w v m.0.seen list owner (seen ∙ c.0) c.1 c.2 c.3 t.1))
            (λ (c : SecondLonger v.seen w.seen v.number w.number).
            inl (told_begins maker v w m.0.seen list owner (seen ∙ c.0) c.1 c.2 c.3 t.1))
            (sorted_cases v.seen w.seen v.number w.number),
      )

module _ {T E : Type 0} (maker : E → ℕ) (v w : View T E) where
  -- where one of two lists begins the other, that other is the longer
  pub second_longer : Begins maker v w → longer v.seen w.seen ≡ w.seen
  second_longer h = ⊎_elim
      (λ (c : FirstLonger v.seen w.seen 0 0). c.0 ∙ whole_if_long v.seen h.more w.seen h.longer c.3)
      (λ (c : SecondLonger v.seen w.seen 0 0). c.0) (sorted_cases v.seen w.seen 0 0)

  pub first_longer : Begins maker w v → longer v.seen w.seen ≡ v.seen
  first_longer h = ⊎_elim (λ (c : FirstLonger v.seen w.seen 0 0). c.0)
      (λ (c : SecondLonger v.seen w.seen 0 0). c.0 ∙ whole_if_long w.seen h.more v.seen h.longer c.3)
      (sorted_cases v.seen w.seen 0 0)

module _ {T E : Type 0} (maker : E → ℕ) (v : View T E) where
  -- a seat splits one off, both take turns, and it takes the other in again: it may do so, and none is away that was
  -- not away before
  pub rejoins : (v1 w1 o w2 : View T E) → v1 ≡ record v { away = v.away ++ o.number ∷ [] }
      → o ≡ record v { number = o.number; mine = []; away = [] } → IsNewNumber maker v o.number
      → w1.away ≡ v1.away → w2.number ≡ o.number → w2.away ≡ o.away
      → (0 < times w2.number w1.away) × (w2.away ≡ []) × ((joined w1 w2).away ≡ v.away)
  rejoins v1 w1 o w2 kept new number stays same stays' =
      let away : w1.away ≡ v.away ++ o.number ∷ [] = stays ∙ ap (λ (z : View T E). z.away) kept in (
        subst (λ (z : ℕ × List ℕ). 0 < times z.0 z.1) (λ i. (sym same i, sym away i)) (times_last o.number v.away),
        stays' ∙ ap (λ (z : View T E). z.away) new,
        ap (λ (z : ℕ × List ℕ). without z.0 z.1) (λ i. (same i, away i))
            ∙ without_last o.number v.away number.above_away,
      )
