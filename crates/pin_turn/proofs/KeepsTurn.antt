-- To begin, to look, to take the turn and to give it back keep the rule.
use Rattle.std.proofs.Common.{◌≡◌, ◌≢◌, ℕ, zero, suc, ◌+◌, ◌*◌, ◌%◌, ◌^◌, ◌<◌, ◌≤◌, eqb, true, List, [], ◌∷◌, ◌++◌}
use Rattle.std.proofs.Common.{length, set, get_or, sym, refl, ap, ◌∙◌, subst, arith, Option, Some, length-set}
use Rattle.std.proofs.{Common.length-append, Common.eq-eqb, Common.ne_eqb, Common.append_assoc, lemmas.List.append-nil}
use Rattle.atomic_table.specs.Table.{step, keeps, takes, gives, stepped, Allows, opening}
use Rattle.atomic_table.proofs.Lists.{set_here, set_else, set_again}
use Rattle.pin_turn.specs.declared.view.Stage.TheVariants.{Gone, Resting, Holding}
use Rattle.pin_turn.specs.Rule.{ByOthers, has_number, Knows, TurnRule, looked, took, gave}
use Rattle.pin_turn.specs.{Counts.Each, Counts.times, Counts.once_below, Views.numbers, Views.numbers_at}
use Rattle.pin_turn.specs.{Views.first_view, declared.view.Stage.Stage, declared.view.View.View}
use Rattle.pin_turn.proofs.Sums.{total_at, Each-append, times-append, times_else, times_one, once_more}
use Rattle.pin_turn.proofs.RuleSteps.{knows_resting, Seated, Table, apart, at_here, has_one, knows_set, not_in}
use Rattle.pin_turn.proofs.RuleSteps.{not_true, steps}
use mathlib.Core.Logic.{dite}
use mathlib.Core.Option.{none, some, some-injective, some-ne-none}
use mathlib.Core.Option as maybe
use native.Mathlib.Decide.{ℕ_discrete, dec_le}
use lib.ListN.{get_elem?}
use lib.Seq.{set-get_or}
use prog.Atomic.{either}

module _ {T E : Type 0} (stands : T → T → List E → Type 0) (maker : E → ℕ) (start : T) where
  pub starts : stands start start [] → TurnRule stands maker start (opening (0 ∷ []) (Some start ∷ [])
      (first_view start))
  starts h = let v : View T E = first_view start in record {
    log = [];
    made = 1;
    busy = 0;
    holder = 0;
    wide = refl;
    deep = refl;
    word_is = refl;
    small = (omega arith, omega arith);
    home = λ _. (start, refl, h);
    out = λ e. absurd (omega arith);
    held = λ e. absurd (omega arith);
    each = knows_set
        (Knows maker record { start = start; log = []; busy = 0; holder = 0 }) (v ∷ []) 0 v
        (knows_resting stands maker start _ 0 v [] refl refl tt refl tt (λ e. absurd (cc)))
        (λ j u other e. absurd (beyond j u other e));
    longest = (0, v, refl, (λ e. absurd (cc)), refl);
    counted = λ k. none_below k;
    tree = λ n some'. let t = times_else n 0 (λ e. omega arith) in omega arith;
    apart = λ n. let t = times_one n 0 in omega arith;
    fresh = λ n some'. let t = times_else n 0 (λ e. omega arith) in omega arith;
    made_before = tt;
  }
    where
      beyond : (j : ℕ) (u : View T E) → j ≢ 0 → get_elem? (first_view {T = T} {E = E} start ∷ []) j ≡ some u → ⊥
      beyond zero u other e = other refl
      beyond (suc j) u other e = some-ne-none u (sym e)

      none_below : (k : ℕ) → 0 + 0 ≡ once_below k 0
      none_below k = grind (arith, Rattle.std.proofs.lemmas.Bool.Decides.nat_tests)

  -- a step that changes nothing
  stays : (s : Table T E) (r : TurnRule stands maker start s) (id : ℕ) (v : View T E) → get_elem? s.views id ≡ some v
      → TurnRule stands maker start record {
        words = set s.words 0 (get_or s.words 0 0);
        homes = s.homes;
        views = set s.views id v;
      }
  stays s r id v at = subst (λ (z : List ℕ × List (View T E)). TurnRule stands maker start record {
    words = z.0;
    homes = s.homes;
    views = z.1;
  }) (λ i. (sym (set-get_or s.words 0 0) i, sym (set_again s.views id v at) i)) r

  pub looks : (slots id : ℕ) (me : Seated T E) → Allows (TurnRule stands maker start) slots id me 0 (λ n. n) (looked
      (step slots 0 0 0 none) me)
  looks slots id me s r _ at _ =
      let n : ℕ = get_or s.words 0 0 in
      let v : View T E = me.0 in
      let k = r.each id v at in
      let small = r.small in
      let is = r.word_is in
      dite (dec_le (2 ^ 63) n)
      (λ full. let w : View T E = record v { used_up = true } in
      let len : length r.log * 2 + r.busy ≡ 2 ^ 63 = omega arith in (
        w,
        keeps,
        tt,
        steps stands maker start s r id v w at n s.homes r.log r.busy r.holder refl r.word_is r.small r.home r.out
            (λ e. let h = r.held e in dite (ℕ_discrete r.holder id) (λ here. absurd (omega arith))
            (λ else. (h.0, set_else s.views id r.holder w else ∙ h.1, h.2)))
            record {
              later = k.later;
              begins = k.begins;
              by_others = k.by_others;
              start_is = k.start_is;
              above = k.above;
              bare = k.bare;
              spent = λ _. len;
              heard = k.heard;
              holds = k.holds;
            }
            (λ j u _ e. r.each j u e)
            (let h = r.longest in dite (ℕ_discrete h.0 id)
            (λ here. let same : h.1 ≡ v = some-injective h.1 v (sym h.2 ∙ (ap (get_elem? s.views) here ∙ at)) in (
              id,
              w,
              at_here s.views id v w at,
              subst (λ (z : View T E). z.stage ≢ Gone) same h.3,
              ap (λ (z : View T E). z.seen) (sym same) ∙ h.4,
            ))
            (λ else. (h.0, h.1, set_else s.views id h.0 w else ∙ h.2, h.3, h.4)))
            refl refl (λ _. refl) r.made_before,
        ((λ _. refl), λ few. absurd (omega arith)),
      ))
      (λ more. (
        v,
        keeps,
        tt,
        stays s r id v at,
        ((λ full. absurd (more full)), λ _. refl),
      ))

  -- the word is even, so no seat has the turn
  even : (s : Table T E) (r : TurnRule stands maker start s) → get_or s.words 0 0 % 2 ≡ 0 → r.busy ≡ 0
  even s r e = let is = r.word_is in let small = r.small in omega arith

  pub takes_turn : (slots id : ℕ) (me : Seated T E) (word : ℕ) → me.0.stage ≡ Resting → word % 2 ≡ 0 → word < 2 ^ 63
      → Allows (TurnRule stands maker start) slots id me 0 (λ n. either (eqb n word) (word + 1) n)
      (took stands maker (step slots 0 word (word + 1) none) me)
  takes_turn slots id me word sits is_even few s r _ at _ =
      let n : ℕ = get_or s.words 0 0 in
      let v : View T E = me.0 in
      let k = r.each id v at in
      let is = r.word_is in
      let small = r.small in
      let alone : numbers v ≡ v.number ∷ [] = ap (numbers_at v.number) sits in
      dite (ℕ_discrete n word)
      (λ hit. let free : r.busy ≡ 0 = even s r (omega arith) in let home = r.home free in let deep = r.deep in
      let w : View T E = record v { seen = v.seen ++ k.later; stage = Holding } in (
        w,
        takes 0 (Some home.0),
        home.1,
        subst (λ b. TurnRule stands maker start (stepped s 0 (either b (word + 1) n) id me.1 w (takes 0 (Some home.0))))
            (sym (eq-eqb n word hit))
            (steps stands maker start s r id v w at (word + 1) (set s.homes 0 none) r.log 1 id
            (length-set s.homes 0 none) (omega arith)
            (omega arith, omega arith) (λ e. absurd (omega arith)) (λ _. set_here s.homes 0 none (omega arith))
            (λ _. (w, at_here s.views id v w at, refl))
            record {
              later = [];
              begins = k.begins ∙ sym (append-nil (v.seen ++ k.later));
              by_others = tt;
              start_is = λ _. k.start_is (λ e. absurd (cc));
              above = k.above;
              bare = λ e. absurd (cc);
              spent = λ e. let t = k.spent e in absurd (omega arith);
              heard = λ k' owner told e. absurd (cc);
              holds = λ _. (refl, refl, refl);
            }
            (λ j u other e. let h = r.each j u e in record {
              later = h.later;
              begins = h.begins;
              by_others = h.by_others;
              start_is = h.start_is;
              above = h.above;
              bare = h.bare;
              spent = λ e. let t = h.spent e in absurd (omega arith);
              heard = h.heard;
              holds = λ held. let t = (h.holds held).0 in absurd (omega arith);
            })
            (id, w, at_here s.views id v w at, (λ e. absurd (cc)), sym k.begins)
            (sym alone) refl (λ _. refl) r.made_before),
        (
          (λ _. record {
            value = home.0;
            between = k.later;
            hand = refl;
            view = refl;
            by_others = subst (λ (ns : List ℕ). ByOthers maker ns k.later) alone k.by_others;
            turns = let len : length r.log ≡ length (v.seen ++ k.later) = ap length k.begins in omega arith;
            unspent = not_true v.used_up (λ e. let t = k.spent e in absurd (omega arith));
            stand = λ x start_is.
                let same : start ≡ x = cc (k.start_is (λ e. absurd (cc))) in
                subst (λ (z : T × List E). stands z.0 home.0 z.1) (λ i. (same i, k.begins i)) home.2;
          }),
          λ miss. absurd (miss hit),
        ),
      ))
      (λ miss. (
        v,
        keeps,
        tt,
        subst (λ b. TurnRule stands maker start (stepped s 0 (either b (word + 1) n) id me.1 v keeps)) (sym
            (ne_eqb n word miss))
            (stays s r id v at),
        ((λ hit. absurd (miss hit)), λ _. refl),
      ))

  pub gives_turn : (slots id : ℕ) (me : Seated T E) (word : ℕ) (y : T) (e : E) (added : List E) → me.0.stage ≡ Holding
      → word ≡ length me.0.seen * 2 + 2 → me.1 ≡ (0, Some y) ∷ []
      → ((x : T) → me.0.start ≡ Some x → stands x y (me.0.seen ++ added)) → added ≡ e ∷ [] → maker e ≡ me.0.number
      → Allows (TurnRule stands maker start) slots id me 0 (λ _. word) (λ _. gave added
      (step slots 0 word 0 none) me word)
  gives_turn slots id me word y e added holds word_is hand stand one by s r _ at _ =
      let v : View T E = me.0 in
      let k = r.each id v at in
      let is = r.word_is in
      let small = r.small in
      let held = k.holds holds in
      let busy : r.busy ≡ 1 = held.0 in
      let all : r.log ≡ v.seen = k.begins ∙ (ap (λ (l : List E). v.seen ++ l) held.2 ∙ append-nil v.seen) in
      let len : length r.log ≡ length v.seen = ap length all in
      let log' : List E = v.seen ++ added in
      let w : View T E = record v { seen = log'; mine = v.mine ++ length v.seen ∷ []; stage = Resting } in
      let alone : numbers v ≡ v.number ∷ [] = ap (numbers_at v.number) holds in
      let len' : length log' ≡ length v.seen + 1 =
      length-append v.seen added ∙ ap (λ (l : List E). length v.seen + length l) one in
      let deep = r.deep in
      let start_is : v.start ≡ Some start = k.start_is (λ g. absurd (cc)) in
      let back : List E → Type 0 = λ l. l ≡ log' in (
        w,
        gives,
        tt,
        subst (λ (cs : List (ℕ × Option T)). TurnRule stands maker start (stepped s 0 word id cs w gives)) (sym hand)
            (steps stands maker start s r id v w at word (set s.homes 0 (some (Some y))) log' 0 id
            (length-set s.homes 0 (some (Some y)))
            (omega arith) (omega arith, omega arith)
            (λ _. (y, set_here s.homes 0 (some (Some y)) (omega arith), stand start start_is))
            (λ f. absurd (omega arith)) (λ f. absurd (omega arith))
            (knows_resting stands maker start _ id w [] refl (sym (append-nil log')) tt start_is k.above
            (λ g. let t = k.spent g in absurd (omega arith)))
            (λ j u other f. let h = r.each j u f in
            let mine : 1 ≤ has_number (maker e) v =
            subst (λ (n : ℕ). 1 ≤ has_number n v) (sym by) (has_one v (λ g. absurd (cc))) in
            let none' : times (maker e) (numbers u) ≡ 0 =
            apart stands maker start s r (maker e) id j v u at f other mine in
            record {
              later = h.later ++ added;
              begins = ap (λ (l : List E). l ++ added) (sym all ∙ h.begins) ∙ append_assoc u.seen h.later added;
              by_others = Each-append (λ (z : E). times (maker z) (numbers u) ≡ 0) h.later added h.by_others
                  (subst (ByOthers maker (numbers u)) (sym one) (none', tt));
              start_is = h.start_is;
              above = h.above;
              bare = h.bare;
              spent = λ g. let t = h.spent g in absurd (omega arith);
              heard = λ k' owner told g. let t = h.heard k' owner told g in
                  let known : times (maker e) (u.number ∷ k' ∷ []) ≡ 0 =
                  ap (λ (z : Stage E). times (maker e) (numbers_at u.number z)) (sym g) ∙ none' in (
                    t.0 ++ added,
                    ap (λ (l : List E). l ++ added) (sym all ∙ t.1) ∙ append_assoc told t.0 added,
                    Each-append (λ (z : E). times (maker z) (owner ∷ []) ≡ 0) t.0 added t.2 (subst (ByOthers maker
                        (owner ∷ [])) (sym one) (
                          not_in (maker e) owner (u.number ∷ k' ∷ []) known t.3,
                          tt,
                        )),
                    t.3,
                    t.4,
                  );
              holds = λ g. let t = h.holds g in absurd (other (sym t.1 ∙ held.1));
            })
            (id, w, at_here s.views id v w at, (λ g. absurd (cc)), refl)
            (sym alone) refl
            (λ n. let a = times-append n v.mine (length v.seen ∷ []) in let b = once_more n (length v.seen) in
            let c : once_below n (length log') ≡ once_below n (length v.seen + 1) = ap (once_below n) len' in
            let d : once_below n (length r.log) ≡ once_below n (length v.seen) = ap (once_below n) len in
            omega arith)
            (Each-append (λ (z : E). maker z < r.made) v.seen added
            (subst (Each (λ (z : E). maker z < r.made)) all r.made_before)
            (subst (Each (λ (z : E). maker z < r.made)) (sym one) (below s r id v at by (λ g. absurd (cc)), tt)))),
        ap (λ (cs : List (ℕ × Option T)). (w, Rattle.atomic_table.specs.Table.rest cs)) hand,
      )
    where
      below : (s : Table T E) (r : TurnRule stands maker start s) (id : ℕ) (v : View T E)
          → get_elem? s.views id ≡ some v → maker e ≡ v.number
          → v.stage ≢ Gone → maker e < r.made
      below s r id v at by there = dite (dec_le r.made (maker e)) (λ h. let none' = r.fresh (maker e) h in
          let mine : 1 ≤ has_number (maker e) v =
          subst (λ (n : ℕ). 1 ≤ has_number n v) (sym by) (has_one v there) in
          let t = total_at (has_number (maker e)) s.views id v at in absurd (omega arith)) (λ h. omega arith)
