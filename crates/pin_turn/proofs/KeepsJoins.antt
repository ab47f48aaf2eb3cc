-- To take a seat in, and to compare what both have seen, keep the rule.
use Rattle.std.proofs.Common.{◌≡◌, ℕ, ◌+◌, ◌<◌, ◌≤◌, ⊎_elim, List, [], ◌∷◌, ◌++◌, length, set, sym, refl, ap, ◌∙◌}
use Rattle.std.proofs.Common.{subst, arith}
use Rattle.atomic_table.specs.Table.{step, keeps, Allows, Joins}
use Rattle.atomic_table.proofs.Lists.{set_else}
use Rattle.pin_turn.specs.Counts.{times, total, without, longer, shorter, of_shorter}
use Rattle.pin_turn.specs.Rule.{ByOthers, mine_at, away_at, has_number, Knows, TurnRule, compared}
use Rattle.pin_turn.specs.{declared.view.Stage.TheVariants.Resting, declared.view.Stage.TheVariants.Joining}
use Rattle.pin_turn.specs.{declared.view.View.View, Views.numbers, Views.numbers_at, Views.gone_view, Views.hearing}
use Rattle.pin_turn.proofs.Sums.{total_set, Each-right, Each-left, Each-map, times-append, times_here, times-without}
use Rattle.pin_turn.proofs.Sums.{Each-without, FirstLonger, SecondLonger, sorted_cases, shorter_begins, whole_if_long}
use Rattle.pin_turn.proofs.RuleSteps.{knows_resting, after_load, with_views, Seated, at_here, held_set, knows_set}
use Rattle.pin_turn.proofs.{Sums.long_enough, Sums.Each-any, Sums.or_cases, RuleSteps.longest_set}
use mathlib.Core.Logic.{dite}
use mathlib.Core.Option.{none, some, some-injective}
use mathlib.Core.Option as maybe
use native.Mathlib.Decide.{ℕ_discrete}
use lib.ListN.{get_elem?}

module _ {T E : Type 0} (stands : T → T → List E → Type 0) (maker : E → ℕ) (start : T) where
  -- what came after the longer of two beginnings is by neither
  later_of_longer : (log xs ys us vs : List E) (a b : ℕ)
      → log ≡ xs ++ us → log ≡ ys ++ vs → ByOthers maker (a ∷ []) us → ByOthers maker (b ∷ []) vs
      → (later : List E) × (log ≡ longer xs ys ++ later) × ByOthers maker (a ∷ b ∷ []) later
  later_of_longer log xs ys us vs a b p q not_a not_b = ⊎_elim
      (λ (t : FirstLonger xs ys a b). let m = shorter_begins ys xs vs us (sym q ∙ p) t.3 in (
        us,
        p ∙ ap (λ (l : List E). l ++ us) (sym t.0),
        by_neither us not_a
            (Each-right (λ (e : E). times (maker e) (b ∷ []) ≡ 0) m.0 us (subst (ByOthers maker (b ∷ [])) m.2 not_b)),
      ))
      (λ (t : SecondLonger xs ys a b). let m = shorter_begins xs ys us vs (sym p ∙ q) t.3 in (
        vs,
        q ∙ ap (λ (l : List E). l ++ vs) (sym t.0),
        by_neither vs (Each-right
            (λ (e : E). times (maker e) (a ∷ []) ≡ 0) m.0 vs (subst (ByOthers maker (a ∷ [])) m.2 not_a)) not_b,
      ))
      (sorted_cases xs ys a b)
    where
      by_neither : (es : List E) → ByOthers maker (a ∷ []) es → ByOthers maker (b ∷ []) es
          → ByOthers maker (a ∷ b ∷ []) es
      by_neither [] g h = tt
      by_neither (e ∷ es) g h = ((let x = g.0 in let y = h.0 in omega arith), by_neither es g.1 h.1)

  later_of_shorter : (log xs ys us vs : List E) (a b : ℕ) → log ≡ xs ++ us → log ≡ ys ++ vs → ByOthers maker (a ∷ []) us
      → ByOthers maker (b ∷ []) vs
      → (more : List E) × (log ≡ shorter xs ys ++ more) × ByOthers maker (of_shorter xs ys a b ∷ []) more
      × (0 < times (of_shorter xs ys a b) (a ∷ b ∷ []))
  later_of_shorter log xs ys us vs a b p q not_a not_b = ⊎_elim
      (λ (t : FirstLonger xs ys a b). (
        vs,
        q ∙ ap (λ (l : List E). l ++ vs) (sym t.1),
        subst (λ (z : ℕ). ByOthers maker (z ∷ []) vs) (sym t.2) not_b,
        subst (λ (z : ℕ). 0 < times z (a ∷ b ∷ [])) (sym t.2) (let h = times_here b in omega arith),
      ))
      (λ (t : SecondLonger xs ys a b). (
        us,
        p ∙ ap (λ (l : List E). l ++ us) (sym t.1),
        subst (λ (z : ℕ). ByOthers maker (z ∷ []) us) (sym t.2) not_a,
        subst (λ (z : ℕ). 0 < times z (a ∷ b ∷ [])) (sym t.2) (let h = times_here a in omega arith),
      ))
      (sorted_cases xs ys a b)

  pub joins : (id : ℕ) (v : View T E) (other : ℕ) (w : View T E) → v.stage ≡ Resting → w.stage ≡ Resting
      → 0 < times w.number v.away
      → w.away ≡ [] → Joins (TurnRule stands maker start) id v other w (hearing v w) gone_view
  joins id v other w sits sits' mine bare s r at apart' there =
      let both : View T E = hearing v w in
      let vs : List (View T E) = set s.views id both in
      let P = Knows maker record { start = start; log = r.log; busy = r.busy; holder = r.holder } in
      let at' : get_elem? s.views other ≡ some w = sym (set_else s.views id other both apart') ∙ there in
      let k = r.each id v at in
      let k' = r.each other w at' in
      let one : numbers v ≡ v.number ∷ [] = ap (numbers_at v.number) sits in
      let one' : numbers w ≡ w.number ∷ [] = ap (numbers_at w.number) sits' in
      let not_v : ByOthers maker (v.number ∷ []) k.later =
      subst (λ (ns : List ℕ). ByOthers maker ns k.later) one k.by_others in
      let not_w : ByOthers maker (w.number ∷ []) k'.later =
      subst (λ (ns : List ℕ). ByOthers maker ns k'.later) one' k'.by_others in
      let later =
      later_of_longer r.log v.seen w.seen k.later k'.later v.number w.number k.begins k'.begins not_v not_w in
      let told =
      later_of_shorter r.log v.seen w.seen k.later k'.later v.number w.number k.begins k'.begins not_v not_w in
      let long = long_enough v.seen w.seen in
      let same : (x : ℕ) → total (has_number x) (set vs other gone_view) ≡ total (has_number x) s.views = λ x.
      let a : has_number x v ≡ times x (v.number ∷ []) = ap (times x) one in
      let b : has_number x w ≡ times x (w.number ∷ []) = ap (times x) one' in
      let c = total_set (has_number x) s.views id v both at in
      let d = total_set (has_number x) vs other w gone_view there in
      omega arith in
      let away_of' : (x : ℕ) → away_at x w ≡ 0 = λ x. ap (times x) bare in
      let whole : (xs : List E) → length xs ≤ length both.seen → xs ≡ r.log → both.seen ≡ r.log = λ xs m e.
      let l : length xs ≡ length r.log = ap length e in
      whole_if_long both.seen later.0 r.log later.1 (omega arith) in
      with_views stands maker start s r r.made (set vs other gone_view) record {
        held = λ e. held_set vs r.holder other w gone_view there (λ g. absurd (cc))
            (held_set s.views r.holder id v both at (λ g. absurd (cc)) (r.held e));
        each = knows_set P vs other gone_view
            record {
              later = r.log;
              begins = refl;
              by_others = Each-any (λ (e : E). 0 ≡ 0) (λ e. refl) r.log;
              start_is = λ g. absurd (g refl);
              above = tt;
              bare = λ _. (refl, refl);
              spent = λ g. absurd (cc);
              heard = λ k' owner told g. absurd (cc);
              holds = λ g. absurd (cc);
            }
            (λ j u _ e. knows_set P s.views id both
            record {
              later = later.0;
              begins = later.1;
              by_others = later.2;
              start_is = λ _. k.start_is (λ g. absurd (cc));
              above = k.above;
              bare = λ g. absurd (cc);
              spent = λ g. ⊎_elim k.spent k'.spent (or_cases v.used_up w.used_up g);
              heard = λ x y t g.
                  let is_x : w.number ≡ x = cc in
                  let is_y : of_shorter v.seen w.seen v.number w.number ≡ y = cc in
                  let is_t : shorter v.seen w.seen ≡ t = cc in (
                    told.0,
                    told.1 ∙ ap (λ (l : List E). l ++ told.0) is_t,
                    subst (λ (z : ℕ). ByOthers maker (z ∷ []) told.0) is_y told.2,
                    subst (λ (z : ℕ × ℕ). 0 < times z.0 (v.number ∷ z.1 ∷ [])) (λ i. (is_y i, is_x i)) told.3,
                    subst (λ (z : ℕ). 0 < times z v.away) is_x mine,
                  );
              holds = λ g. absurd (cc);
            }
            (λ i x _ f. r.each i x f) j u e);
        longest = let l = longest_set s.views r.log id v both at (λ g. absurd (cc)) (whole v.seen long.0) r.longest in
            dite (ℕ_discrete l.0 other)
            (λ here. let is : l.1 ≡ w = some-injective l.1 w (sym l.2 ∙ (ap (get_elem? vs) here ∙ there)) in (
              id,
              both,
              set_else vs other id gone_view (λ e. apart' (sym e)) ∙ at_here s.views id v both at,
              (λ g. absurd (cc)),
              whole w.seen long.1 (ap (λ (z : View T E). z.seen) (sym is) ∙ l.4),
            ))
            (λ else'. (l.0, l.1, set_else vs other l.0 gone_view else' ∙ l.2, l.3, l.4));
        counted = λ x.
            let a = total_set (mine_at x) s.views id v both at in
            let b = total_set (mine_at x) vs other w gone_view there in
            let c = r.counted x in
            let d = times-append x v.mine w.mine in
            omega arith;
        tree = λ x some'.
            let a = total_set (away_at x) s.views id v both at in
            let b = total_set (away_at x) vs other w gone_view there in
            let e = r.tree x some' in let g = same x in let i = away_of' x in omega arith;
        apart = λ x. let e = r.apart x in let g = same x in omega arith;
        fresh = λ x l. let e = r.fresh x l in let g = same x in omega arith;
        made_before = r.made_before;
      }

  pub compares : (slots id : ℕ) (me : Seated T E) (n owner : ℕ) (told : List E) → me.0.stage ≡ Joining n owner told
      → Allows (TurnRule stands maker start) slots id me 0 (λ n. n) (compared maker (step slots 0 0 0 none) me)
  compares slots id me n owner told is s r _ at _ =
      let v : View T E = me.0 in
      let k = r.each id v at in
      let w : View T E = record v { away = without n v.away; stage = Resting } in
      let hear = k.heard n owner told is in
      let both : numbers v ≡ v.number ∷ n ∷ [] = ap (numbers_at v.number) is in
      let less : (x : ℕ)
      → total (has_number x) (set s.views id w) + times x (n ∷ []) ≡ total (has_number x) s.views = λ x.
      let a : has_number x v ≡ times x (v.number ∷ n ∷ []) = ap (times x) both in
      let b = total_set (has_number x) s.views id v w at in
      omega arith in
      let P = Knows maker record { start = start; log = r.log; busy = r.busy; holder = r.holder } in (
        w,
        keeps,
        tt,
        after_load stands maker start s r r.made (set s.views id w) record {
          held = λ e. held_set s.views r.holder id v w at (λ g. absurd (cc)) (r.held e);
          each = knows_set P s.views id w
              (knows_resting stands maker start _ id w k.later refl k.begins
              (Each-map (λ (z : E). times (maker z) (v.number ∷ n ∷ []) ≡ 0)
              (λ (z : E). times (maker z) (v.number ∷ []) ≡ 0) (λ z h. omega arith) k.later
              (subst (λ (ns : List ℕ). ByOthers maker ns k.later) both k.by_others))
              (k.start_is (λ g. absurd (cc))) (Each-without (λ (x : ℕ). v.number < x) n v.away k.above) k.spent)
              (λ j u _ e. r.each j u e);
          longest = longest_set s.views r.log id v w at (λ g. absurd (cc)) (λ e. e) r.longest;
          counted = λ x. let a = total_set (mine_at x) s.views id v w at in let b = r.counted x in omega arith;
          tree = λ x some'.
              let a = total_set (away_at x) s.views id v w at in
              let e = r.tree x some' in
              let f = times-without x n v.away hear.4 in
              let g = less x in
              omega arith;
          apart = λ x. let e = r.apart x in let g = less x in omega arith;
          fresh = λ x l. let e = r.fresh x l in let g = less x in omega arith;
          made_before = r.made_before;
        },
        λ n' owner' told' is'.
            let same_n : n ≡ n' = cc in
            let same_told : told ≡ told' = cc in
            let h = k.heard n' owner' told' is' in (
              ap (λ (z : ℕ). (record v { away = without z v.away; stage = Resting }, me.1)) same_n,
              λ few.
                  let m = shorter_begins told' v.seen h.0 k.later (sym h.1 ∙ k.begins) few in (
                    m.0,
                    m.1,
                    Each-left (λ (e : E). times (maker e) (owner' ∷ []) ≡ 0) m.0 k.later
                        (subst (ByOthers maker (owner' ∷ [])) m.2 h.2),
                  ),
            ),
      )
