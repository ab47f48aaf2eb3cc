-- To draw a number and to split a seat off keep the rule.
use Rattle.std.proofs.Common.{◌≡◌, ℕ, ◌+◌, ◌<◌, ⊎_elim, List, [], ◌∷◌, ◌++◌, set, get_or, sym, refl, ap, subst, arith}
use Rattle.std.proofs.Common.{Some}
use Rattle.atomic_table.specs.Table.{step, keeps, Allows, Splits}
use Rattle.atomic_table.proofs.Lists.{at_snoc, at_longer}
use Rattle.pin_turn.specs.Views.{numbers, numbers_at, new_view, rested}
use Rattle.pin_turn.specs.Rule.{ByOthers, mine_at, away_at, has_number, Knows, TurnRule, drew_number}
use Rattle.pin_turn.specs.{declared.view.Stage.TheVariants.Resting, declared.view.Stage.TheVariants.Splitting}
use Rattle.pin_turn.specs.{declared.view.View.View, Counts.Each, Counts.times, Counts.total}
use Rattle.pin_turn.proofs.Sums.{total_set, total_snoc, Each-append, Each-right, Each-left, Each-map, times-append}
use Rattle.pin_turn.proofs.RuleSteps.{knows_resting, after_load, with_views, Seated, away_below, held_set, knows_set}
use Rattle.pin_turn.proofs.{Sums.times_else, Sums.times_one, RuleSteps.longest_set, RuleSteps.number_below}
use mathlib.Core.Logic.{dite}
use mathlib.Core.Option.{none}
use mathlib.Core.Option as maybe
use native.Mathlib.Decide.{ℕ_discrete}

module _ {T E : Type 0} (stands : T → T → List E → Type 0) (maker : E → ℕ) (start : T) where
  pub draws_number : (slots id : ℕ) (me : Seated T E) → me.0.stage ≡ Resting
      → Allows (TurnRule stands maker start) slots id me 0 (λ n. n) (drew_number maker (step slots 0 0 0 none) me)
  draws_number slots id me sits s r _ at _ =
      let n : ℕ = get_or s.words 0 0 in
      let v : View T E = me.0 in
      let k = r.each id v at in
      let made : ℕ = r.made in
      let w : View T E = record v { away = v.away ++ made ∷ []; stage = Splitting made } in
      let alone : numbers v ≡ v.number ∷ [] = ap (numbers_at v.number) sits in
      let low : v.number < made = number_below stands maker start s r id v at (λ g. absurd (cc)) in
      let more : (x : ℕ)
      → total (has_number x) (set s.views id w) ≡ total (has_number x) s.views + times x (made ∷ []) = λ x.
      let a : has_number x v ≡ times x (v.number ∷ []) = ap (times x) alone in
      let b = total_set (has_number x) s.views id v w at in
      omega arith in (
        w,
        keeps,
        tt,
        after_load stands maker start s r (made + 1) (set s.views id w) record {
          held = λ e. held_set s.views r.holder id v w at (λ g. absurd (cc)) (r.held e);
          each = knows_set
              (Knows maker record { start = start; log = r.log; busy = r.busy; holder = r.holder }) s.views id w
              record {
                later = k.later;
                begins = k.begins;
                by_others = both_apart v.number made r.log v.seen k.later k.begins
                    (subst (λ (ns : List ℕ). ByOthers maker ns k.later) alone k.by_others) r.made_before;
                start_is = λ _. k.start_is (λ g. absurd (cc));
                above = Each-append (λ (x : ℕ). v.number < x) v.away (made ∷ []) k.above (low, tt);
                bare = λ g. absurd (cc);
                spent = k.spent;
                heard = λ k' owner told g. absurd (cc);
                holds = λ g. absurd (cc);
              }
              (λ j u _ e. r.each j u e);
          longest = longest_set s.views r.log id v w at (λ g. absurd (cc)) (λ e. e) r.longest;
          counted = λ x. let a = total_set (mine_at x) s.views id v w at in let b = r.counted x in omega arith;
          tree = λ x some'.
              let a = total_set (away_at x) s.views id v w at in
              let c = r.tree x some' in
              let d = times-append x v.away (made ∷ []) in
              let e = more x in
              omega arith;
          apart = λ x.
              let c = r.apart x in
              let e = more x in
              dite (ℕ_discrete made x) (λ same. let f = r.fresh x (omega arith) in let g = times_one x made in
              omega arith) (λ else. let g = times_else x made else in omega arith);
          fresh = λ x h.
              let c = r.fresh x (omega arith) in
              let e = more x in
              let g = times_else x made (λ same. omega arith) in
              omega arith;
          made_before = Each-map (λ (e : E). maker e < made) (λ (e : E). maker e < made + 1)
              (λ e h. omega arith) r.log r.made_before;
        },
        (
          made,
          record {
            above_own = low;
            above_away = away_below stands maker start s r id v at k.above;
            above_makers = Each-left (λ (e : E). maker e < made) v.seen k.later
                (subst (Each (λ (e : E). maker e < made)) k.begins r.made_before);
          },
          refl,
        ),
      )
    where
      both_apart : (a b : ℕ) (log seen later : List E) → log ≡ seen ++ later → ByOthers maker (a ∷ []) later
          → Each (λ (e : E). maker e < b) log → ByOthers maker (a ∷ b ∷ []) later
      both_apart a b log seen later begins others before = zipped later others
          (Each-right (λ (e : E). maker e < b) seen later (subst (Each (λ (e : E). maker e < b)) begins before))
        where
          zipped : (es : List E) → ByOthers maker (a ∷ []) es → Each (λ (e : E). maker e < b) es
              → ByOthers maker (a ∷ b ∷ []) es
          zipped [] p q = tt
          zipped (e ∷ es) p q = (
            (let x = p.0 in let y = times_else (maker e) b (λ same. let z = q.0 in omega arith) in omega arith),
            zipped es p.1 q.1,
          )

  pub splits : (id : ℕ) (v : View T E) (n : ℕ) → v.stage ≡ Splitting n
      → Splits (TurnRule stands maker start) id v (rested v) (new_view v)
  splits id v n is s r at =
      let k = r.each id v at in
      let w : View T E = rested v in
      let o : View T E = new_view v in
      let vs : List (View T E) = set s.views id w in
      let P = Knows maker record { start = start; log = r.log; busy = r.busy; holder = r.holder } in
      let both : numbers v ≡ v.number ∷ n ∷ [] = ap (numbers_at v.number) is in
      let new : o.number ≡ n = ap (Rattle.pin_turn.specs.Views.drawn_or 0) is in
      let same : (x : ℕ) → total (has_number x) (vs ++ o ∷ []) ≡ total (has_number x) s.views = λ x.
      let a : has_number x v ≡ times x (v.number ∷ n ∷ []) = ap (times x) both in
      let b : has_number x o ≡ times x (n ∷ []) = ap (λ (z : ℕ). times x (z ∷ [])) new in
      let c = total_set (has_number x) s.views id v w at in
      let d = total_snoc (has_number x) vs o in
      omega arith in
      let start_is : v.start ≡ Some start = k.start_is (λ g. absurd (cc)) in
      let now : ByOthers maker (v.number ∷ n ∷ []) k.later =
      subst (λ (ns : List ℕ). ByOthers maker ns k.later) both k.by_others in
      let less : (m : ℕ) → ((z : E) → times (maker z) (v.number ∷ n ∷ []) ≡ 0 → times (maker z) (m ∷ []) ≡ 0)
      → ByOthers maker (m ∷ []) k.later = λ m fewer. Each-map (λ (z : E). times (maker z) (v.number ∷ n ∷ []) ≡ 0)
      (λ (z : E). times (maker z) (m ∷ []) ≡ 0) fewer k.later now in
      with_views stands maker start s r r.made (vs ++ o ∷ []) record {
        held = λ e.
            let h = held_set s.views r.holder id v w at (λ g. absurd (cc)) (r.held e) in
            (h.0, at_longer vs (o ∷ []) r.holder h.0 h.1, h.2);
        each = λ j u e. ⊎_elim
            (knows_set P s.views id w
            (knows_resting stands maker start _ id w k.later refl k.begins (less v.number (λ z h. omega arith))
            start_is k.above k.spent)
            (λ i x _ f. r.each i x f) j u)
            (λ (t : o ≡ u). subst (P j) t (knows_resting stands maker start _ j o k.later refl k.begins
            (subst (λ (z : ℕ). ByOthers maker (z ∷ []) k.later) (sym new) (less n (λ z h. omega arith)))
            start_is tt k.spent))
            (at_snoc vs o u j e);
        longest =
            let h = longest_set s.views r.log id v w at (λ g. absurd (cc)) (λ e. e) r.longest in
            (h.0, h.1, at_longer vs (o ∷ []) h.0 h.1 h.2, h.3, h.4);
        counted = λ x.
            let a = total_set (mine_at x) s.views id v w at in
            let b = total_snoc (mine_at x) vs o in
            let c = r.counted x in
            omega arith;
        tree = λ x some'.
            let a = total_set (away_at x) s.views id v w at in
            let b = total_snoc (away_at x) vs o in
            let e = r.tree x some' in
            let f = same x in
            omega arith;
        apart = λ x. let e = r.apart x in let f = same x in omega arith;
        fresh = λ x h. let e = r.fresh x h in let f = same x in omega arith;
        made_before = r.made_before;
      }
