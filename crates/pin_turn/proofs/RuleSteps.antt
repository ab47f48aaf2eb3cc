-- A step that changes one view keeps the rule, where what it says of that view holds.
use Rattle.std.proofs.Common.{false, ◌≡◌, ◌≢◌, ℕ, zero, suc, ◌+◌, ◌*◌, ◌^◌, ◌<◌, ◌≤◌, ⊎_elim, true, List, [], ◌∷◌, ◌++◌}
use Rattle.std.proofs.Common.{length, set, get_or, sym, refl, ap, ◌∙◌, subst, arith, Option, Some, length-set}
use Rattle.std.proofs.Common.{get_or-set_same}
use Rattle.atomic_table.specs.Table.{State, Me}
use Rattle.atomic_table.proofs.Lists.{at_set, set_here, set_else}
use Rattle.pin_turn.specs.declared.view.Stage.TheVariants.{Gone, Resting, Holding}
use Rattle.pin_turn.specs.Counts.{Each, times, once_below, total}
use Rattle.pin_turn.specs.Rule.{mine_at, away_at, has_number, ByOthers, Knows, TurnRule, Turns}
use Rattle.pin_turn.specs.{declared.view.Stage.Stage, declared.view.View.View, Views.numbers, Views.numbers_at}
use Rattle.pin_turn.proofs.Sums.{total_set, total_at, total_two, times_here, times_else, Each_times, Each_of}
use mathlib.Core.Logic.{dite}
use mathlib.Core.Option.{none, some, some-injective, some-ne-none}
use mathlib.Core.Option as maybe
use native.Mathlib.Decide.{ℕ_discrete, dec_le}
use lib.ListN.{get_elem?}
use lib.Seq.{set-get_or}

-- what a table's state is, and what a seat knows and has in hand
abbrev pub Table : Type 0 → Type 0 → Type 0
Table T E = State (Option T) (View T E)

abbrev pub Seated : Type 0 → Type 0 → Type 0
Seated T E = Me (Option T) (View T E)

in_words : (ws : List ℕ) (x : ℕ) → length ws ≡ 1 → get_or (set ws 0 x) 0 0 ≡ x
in_words ws x wide = get_or-set_same ws 0 x 0 (omega arith)

pub not_true : (b : Rattle.std.proofs.Common.Bool) → (b ≡ true → ⊥) → b ≡ false
not_true true h = absurd (h refl)
not_true false h = refl

-- what is not in a list is none that is
pub not_in : (n k : ℕ) (ns : List ℕ) → times n ns ≡ 0 → 0 < times k ns → times n (k ∷ []) ≡ 0
not_in n k ns none' some' = dite (ℕ_discrete k n) (λ e.
    let h : times k ns ≡ times n ns = ap (λ (z : ℕ). times z ns) e in absurd (omega arith)) (λ e. times_else n k e)

module _ {T E : Type 0} where
  -- what is known of each view, after the view of one seat changed
  pub knows_set : (P : ℕ → (View T E) → Type 0) (vs : List (View T E)) (id : ℕ) (w : View T E) → P id w
      → ((j : ℕ) (u : View T E) → j ≢ id → get_elem? vs j ≡ some u → P j u) → (j : ℕ) (u : View T E)
      → get_elem? (set vs id w) j ≡ some u → P j u
  knows_set P vs id w mine others j u e =
      ⊎_elim (λ (t : (j ≡ id) × (w ≡ u)). subst (λ (z : ℕ × (View T E)). P z.0 z.1) (λ i. (sym t.0 i, t.1 i)) mine)
      (λ (t : (j ≢ id) × (get_elem? vs j ≡ some u)). others j u t.0 t.1) (at_set vs id j w u e)

  inside : (l : List (View T E)) (i : ℕ) (a : View T E) → get_elem? l i ≡ some a → i < length l
  inside [] i a e = absurd (some-ne-none a (sym e))
  inside (x ∷ xs) zero a e = omega arith
  inside (x ∷ xs) (suc i) a e = let t = inside xs i a e in omega arith

  pub at_here : (vs : List (View T E)) (id : ℕ) (v w : View T E) → get_elem? vs id ≡ some v
      → get_elem? (set vs id w) id ≡ some w
  at_here vs id v w at = set_here vs id w (inside vs id v at)

  pub has_one : (v : View T E) → v.stage ≢ Gone → 1 ≤ has_number v.number v
  has_one v h = some_number v.number v.stage h
    where
      some_number : (n : ℕ) (g : Stage E) → g ≢ Gone → 1 ≤ times n (numbers_at n g)
      some_number n Gone h = absurd (h refl)
      some_number n _ h = let t = times_here n in omega arith

  -- the longest list is still some seat's, after one view changed and kept all that it had seen
  pub longest_set : (vs : List (View T E)) (log : List E) (id : ℕ) (v w : View T E) → get_elem? vs id ≡ some v
      → w.stage ≢ Gone → (v.seen ≡ log → w.seen ≡ log)
      → (j : ℕ) × (u : View T E) × (get_elem? vs j ≡ some u) × (u.stage ≢ Gone) × (u.seen ≡ log)
      → (j : ℕ) × (u : View T E) × (get_elem? (set vs id w) j ≡ some u) × (u.stage ≢ Gone) × (u.seen ≡ log)
  longest_set vs log id v w at there whole h = dite (ℕ_discrete h.0 id)
      (λ here. let same : h.1 ≡ v = some-injective h.1 v (sym h.2 ∙ (ap (get_elem? vs) here ∙ at)) in
      (id, w, at_here vs id v w at, there, whole (ap (λ (z : View T E). z.seen) (sym same) ∙ h.4)))
      (λ else. (h.0, h.1, set_else vs id h.0 w else ∙ h.2, h.3, h.4))

  -- the seat that has the turn still has it, after the view of another changed
  pub held_set : (vs : List (View T E)) (holder id : ℕ) (v w : View T E)
      → get_elem? vs id ≡ some v → v.stage ≢ Holding → (u : View T E) × (get_elem? vs holder ≡ some u) ×
      (u.stage ≡ Holding)
      → (u : View T E) × (get_elem? (set vs id w) holder ≡ some u) × (u.stage ≡ Holding)
  held_set vs holder id v w at rest h = dite (ℕ_discrete holder id)
      (λ here. let same : h.0 ≡ v = some-injective h.0 v (sym h.1 ∙ (ap (get_elem? vs) here ∙ at)) in
      absurd (rest (ap (λ (z : View T E). z.stage) (sym same) ∙ h.2)))
      (λ else. (h.0, set_else vs id holder w else ∙ h.1, h.2))

module _ {T E : Type 0} (stands : T → T → List E → Type 0) (maker : E → ℕ) (start : T) where
  -- two seats have no number in common
  pub apart : (s : Table T E) (r : TurnRule stands maker start s) (n id j : ℕ) (v u : View T E)
      → get_elem? s.views id ≡ some v
      → get_elem? s.views j ≡ some u
      → j ≢ id → 1 ≤ has_number n v → has_number n u ≡ 0
  apart s r n id j v u at at' other one =
      let two = total_two (has_number n) s.views id j v u at at' (λ e. other (sym e)) in
      let most = r.apart n in
      omega arith

  -- what the rule says of the views, where all else is as it was but the numbers that were drawn
  pub record OfViews (s : Table T E) (r : TurnRule stands maker start s) (made : ℕ) (views : List (View T E)) : Type 0
    where
      pub held : r.busy ≡ 1 → (v : View T E) × (get_elem? views r.holder ≡ some v) × (v.stage ≡ Holding)
      pub each : (j : ℕ) (v : View T E) → get_elem? views j ≡ some v
          → Knows maker record { start = start; log = r.log; busy = r.busy; holder = r.holder } j v
      pub longest : (j : ℕ) × (v : View T E) × (get_elem? views j ≡ some v) × (v.stage ≢ Gone) × (v.seen ≡ r.log)
      pub counted : (k : ℕ) → total (mine_at k) views ≡ once_below k (length r.log)
      pub tree : (n : ℕ) → 0 < n → total (away_at n) views ≡ total (has_number n) views
      pub apart : (n : ℕ) → total (has_number n) views ≤ 1
      pub fresh : (n : ℕ) → made ≤ n → total (has_number n) views ≡ 0
      pub made_before : Each (λ e. maker e < made) r.log

  pub with_views : (s : Table T E) (r : TurnRule stands maker start s) (made : ℕ) (views : List (View T E))
      → OfViews s r made views
      → TurnRule stands maker start record { words = s.words; homes = s.homes; views = views }
  with_views s r made views h = record {
    log = r.log;
    made = made;
    busy = r.busy;
    holder = r.holder;
    wide = r.wide;
    deep = r.deep;
    word_is = r.word_is;
    small = r.small;
    home = r.home;
    out = r.out;
    held = h.held;
    each = h.each;
    longest = h.longest;
    counted = h.counted;
    tree = h.tree;
    apart = h.apart;
    fresh = h.fresh;
    made_before = h.made_before;
  }

  -- the same after a load, which leaves the word
  pub after_load : (s : Table T E) (r : TurnRule stands maker start s) (made : ℕ) (views : List (View T E))
      → OfViews s r made views
      → TurnRule stands maker start record {
        words = set s.words 0 (get_or s.words 0 0);
        homes = s.homes;
        views = views;
      }
  after_load s r made views h = subst
      (λ (ws : List ℕ). TurnRule stands maker start record { words = ws; homes = s.homes; views = views })
      (sym (set-get_or s.words 0 0)) (with_views s r made views h)

  -- what is known of a view at rest
  pub knows_resting : (turns : Turns T E) (j : ℕ) (v : View T E) (later : List E) → v.stage ≡ Resting
      → turns.log ≡ v.seen ++ later → ByOthers maker (v.number ∷ []) later → v.start ≡ Some turns.start
      → Each (λ n. v.number < n) v.away → (v.used_up ≡ true → length turns.log * 2 + turns.busy ≡ 2 ^ 63)
      → Knows maker turns j v
  knows_resting turns j v later sits begins by_others start_is above spent = record {
    later = later;
    begins = begins;
    by_others = subst (λ (ns : List ℕ). ByOthers maker ns later) (sym (ap (numbers_at v.number) sits)) by_others;
    start_is = λ _. start_is;
    above = above;
    bare = λ g. absurd (cc);
    spent = spent;
    heard = λ k owner told g. absurd (cc);
    holds = λ g. absurd (cc);
  }

  -- a step that leaves the numbers as they were
  pub steps : (s : Table T E) (r : TurnRule stands maker start s) (id : ℕ) (v w : View T E)
      → get_elem? s.views id ≡ some v
      → (x : ℕ) (homes' : List (maybe.Option (Option T))) (log' : List E) (busy' holder' : ℕ)
      → length homes' ≡ length s.homes → x ≡ length log' * 2 + busy' → (busy' ≤ 1) × (length log' * 2 + busy' ≤ 2 ^ 63)
      → (busy' ≡ 0 → (y : T) × (get_elem? homes' 0 ≡ some (some (Some y))) × stands start y log')
      → (busy' ≡ 1 → get_elem? homes' 0 ≡ some none)
      → (busy' ≡ 1 → (u : View T E) × (get_elem? (set s.views id w) holder' ≡ some u) × (u.stage ≡ Holding))
      → Knows maker record { start = start; log = log'; busy = busy'; holder = holder' } id w
      → ((j : ℕ) (u : View T E) → j ≢ id → get_elem? s.views j ≡ some u
      → Knows maker record { start = start; log = log'; busy = busy'; holder = holder' } j u)
      → ((j : ℕ) × (u : View T E) × (get_elem? (set s.views id w) j ≡ some u) × (u.stage ≢ Gone) × (u.seen ≡ log'))
      → numbers w ≡ numbers v → w.away ≡ v.away
      → ((k : ℕ) → mine_at k w + once_below k (length r.log) ≡ mine_at k v + once_below k (length log'))
      → Each (λ e. maker e < r.made) log'
      → TurnRule stands maker start record { words = set s.words 0 x; homes = homes'; views = set s.views id w }
  steps s r id v w at x homes' log' busy' holder' deep is small home out held mine others longest same_numbers same_away
      count made = record {
        log = log';
        made = r.made;
        busy = busy';
        holder = holder';
        wide = length-set s.words 0 x ∙ r.wide;
        deep = deep ∙ r.deep;
        word_is = in_words s.words x r.wide ∙ is;
        small = small;
        home = home;
        out = out;
        held = held;
        each = knows_set (Knows maker record { start = start; log = log'; busy = busy'; holder = holder' })
            s.views id w mine others;
        longest = longest;
        counted = λ k.
            let a = total_set (mine_at k) s.views id v w at in
            let b = r.counted k in
            let c = count k in
            omega arith;
        tree = λ n some'.
            let a = total_set (away_at n) s.views id v w at in
            let b = total_set (has_number n) s.views id v w at in
            let c = r.tree n some' in
            let d : away_at n w ≡ away_at n v = ap (times n) same_away in
            let e : has_number n w ≡ has_number n v = ap (times n) same_numbers in
            omega arith;
        apart = λ n.
            let b = total_set (has_number n) s.views id v w at in
            let c = r.apart n in
            let e : has_number n w ≡ has_number n v = ap (times n) same_numbers in
            omega arith;
        fresh = λ n h.
            let b = total_set (has_number n) s.views id v w at in
            let c = r.fresh n h in
            let e : has_number n w ≡ has_number n v = ap (times n) same_numbers in
            omega arith;
        made_before = made;
      }

  pub number_below : (s : Table T E) (r : TurnRule stands maker start s) (id : ℕ) (v : View T E)
      → get_elem? s.views id ≡ some v → v.stage ≢ Gone
      → v.number < r.made
  number_below s r id v at there =
      dite (dec_le r.made v.number) (λ h. let none' = r.fresh v.number h in let mine = has_one v there in
      let t = total_at (has_number v.number) s.views id v at in absurd (omega arith)) (λ h. omega arith)

  pub away_below : (s : Table T E) (r : TurnRule stands maker start s) (id : ℕ) (v : View T E)
      → get_elem? s.views id ≡ some v
      → Each (λ n. v.number < n) v.away
      → Each (λ n. n < r.made) v.away
  away_below s r id v at above = Each_of (λ n. n < r.made) v.away (λ n there. dite (dec_le r.made n)
      (λ h. let none' = r.fresh n h in
      let low : v.number < n = Each_times (λ (x : ℕ). v.number < x) n v.away above there in
      let same = r.tree n (omega arith) in let t = total_at (away_at n) s.views id v at in absurd (omega arith))
      (λ h. omega arith))
