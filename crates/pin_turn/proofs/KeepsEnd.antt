-- At the end the value is at home, and stands for all that the first seat saw.
use Rattle.std.proofs.Common.{◌≡◌, ◌≢◌, ℕ, zero, suc, ◌^◌, ◌<◌, ◌≤◌, true, List, [], length, sym, refl, ap, ◌∙◌, subst}
use Rattle.std.proofs.Common.{arith, Option, Some}
use Rattle.atomic_table.specs.Table.{Final, Seen}
use Rattle.pin_turn.specs.declared.view.Stage.TheVariants.{Gone, Resting, Holding}
use Rattle.pin_turn.specs.{declared.view.Stage.Stage, declared.view.View.View, Counts.times, Counts.once_below}
use Rattle.pin_turn.specs.{Counts.total, Rule.mine_at, Rule.away_at, Rule.has_number, Rule.TurnRule}
use Rattle.pin_turn.proofs.Sums.{total_at, total_some, Each_times, total_only}
use Rattle.pin_turn.proofs.RuleSteps.{Table, apart, has_one}
use mathlib.Core.Logic.{dite}
use mathlib.Core.Option.{some, some-injective}
use mathlib.Core.Option as maybe
use native.Mathlib.Decide.{ℕ_discrete}
use lib.ListN.{get_elem?}

module _ {T E : Type 0} (stands : T → T → List E → Type 0) (maker : E → ℕ) (start : T) where
  -- the first seat is the only one, where none is away
  module _ (s : Table T E) (r : TurnRule stands maker start s) (id : ℕ) (v : View T E)
      (at : get_elem? s.views id ≡ some v) (sits : v.stage ≡ Resting)
      (first : v.number ≡ 0) (bare : v.away ≡ []) where
    no_number : (m n : ℕ) → n < m → 0 < n → total (has_number {T = T} {E = E} n) s.views ≡ 0
    no_number zero n h some' = absurd (omega arith)
    no_number (suc m) n h some' = dite (ℕ_discrete (total (has_number {T = T} {E = E} n) s.views) 0) (λ e. e)
        (λ there. let t = r.tree n some' in let got = total_some (away_at {T = T} {E = E} n) s.views (omega arith) in
        let u : View T E = got.1 in let k = r.each got.0 u got.2 in
        let low : u.number < n = Each_times (λ (x : ℕ). u.number < x) n u.away k.above got.3 in
        let live : u.stage ≢ Gone = λ g. let b : times n u.away ≡ 0 = ap (times n) (k.bare g).1 in
        let c = got.3 in
        absurd (omega arith) in
        dite (ℕ_discrete u.number 0)
        (λ zero'. dite (ℕ_discrete got.0 id)
        (λ here. let same : u ≡ v = some-injective u v (sym got.2 ∙ (ap (get_elem? s.views) here ∙ at)) in
        let b : times n u.away ≡ 0 = ap (λ (z : View T E). times n z.away) same ∙ ap (times n) bare in let c = got.3 in
        absurd (omega arith))
        (λ else. let none' = apart stands maker start s r 0 id got.0 v u at got.2 else
        (subst (λ (x : ℕ). 1 ≤ has_number x v) first (has_one v (λ g. absurd (cc)))) in
        let one = subst (λ (x : ℕ). 1 ≤ has_number x u) zero' (has_one u live) in
        absurd (omega arith)))
        (λ more. let none' = no_number m u.number (omega arith) (omega arith) in
        let one = has_one u live in
        let t = total_at (has_number u.number) s.views got.0 u got.2 in absurd (omega arith)))

    only_first : (j : ℕ) (u : View T E) → get_elem? s.views j ≡ some u → u.stage ≢ Gone → j ≡ id
    only_first j u at' live = dite (ℕ_discrete j id) (λ e. e) (λ else. dite (ℕ_discrete u.number 0)
        (λ zero'. let none' = apart stands maker start s r 0 id j v u at at' else
        (subst (λ (x : ℕ). 1 ≤ has_number x v) first (has_one v (λ g. absurd (cc)))) in
        let one = subst (λ (x : ℕ). 1 ≤ has_number x u) zero' (has_one u live) in
        absurd (omega arith))
        (λ more. let none' = no_number (suc u.number) u.number (omega arith) (omega arith) in
        let one = has_one u live in let t = total_at (has_number u.number) s.views j u at' in
        absurd (omega arith)))

    the_view : (j : ℕ) (u : View T E) → get_elem? s.views j ≡ some u → u.stage ≢ Gone → u ≡ v
    the_view j u at' live = some-injective u v (sym at' ∙ (ap (get_elem? s.views) (only_first j u at' live) ∙ at))

    saw_all : v.seen ≡ r.log
    saw_all = let h = r.longest in ap (λ (z : View T E). z.seen) (sym (the_view h.0 h.1 h.2 h.3)) ∙ h.4

    is_free : r.busy ≡ 0
    is_free = dite (ℕ_discrete r.busy 0) (λ e. e) (λ e. let small = r.small in
        let h = r.held (omega arith) in let same = the_view r.holder h.0 h.1 (λ g. absurd (cc)) in
        let g : v.stage ≡ Holding = ap (λ (z : View T E). z.stage) (sym same) ∙ h.2 in absurd (cc))

    all_mine : (k : ℕ) → times k v.mine ≡ once_below k (length v.seen)
    all_mine k = sym (total_only (mine_at k) s.views id v at (λ j u else e. gone_has_none j u else e))
        ∙ (r.counted k ∙ ap (λ (l : List E). once_below k (length l)) (sym saw_all))
      where
        gone_has_none : (j : ℕ) (u : View T E) → j ≢ id → get_elem? s.views j ≡ some u → mine_at k u ≡ 0
        gone_has_none j u else e = is_gone u.stage refl
          where
            is_gone : (g : Stage E) → u.stage ≡ g → mine_at k u ≡ 0
            is_gone Gone h = ap (times k) ((r.each j u e).bare h).0
            is_gone _ h = absurd (else (only_first j u e (λ g. absurd (cc))))

  -- at the end the value is at home, and stands for all that the first seat saw
  pub closes : (id : ℕ) (v : View T E) (words : List ℕ) (slots : List (Option T)) → v.stage ≡ Resting → v.number ≡ 0
      → v.away ≡ [] → Final (Seen (TurnRule stands maker start) id v) words slots
      → (x : T) × (get_elem? slots 0 ≡ some (Some x)) × stands start x v.seen
      × ((k : ℕ) → times k v.mine ≡ once_below k (length v.seen)) × (v.used_up ≡ true → length v.seen ≡ 2 ^ 62)
  closes id v words slots sits first bare final =
      let s = final.0 in
      let r = final.1.0 in
      let at = final.1.1 in
      let home = r.home (is_free s r id v at sits first bare) in
      let all = saw_all s r id v at sits first bare in (
        home.0,
        final.4 0 (Some home.0) home.1,
        subst (stands start home.0) (sym all) home.2,
        all_mine s r id v at sits first bare,
        λ g.
            let len : length v.seen ≡ length r.log = ap length all in
            let word = (r.each id v at).spent g in
            let free = is_free s r id v at sits first bare in
            omega arith,
      )
