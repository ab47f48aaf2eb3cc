-- Sums over the views, when one of them changes.
use Rattle.std.proofs.Common.{Bool, cond, nat_lt, true, false, ◌||◌, ◌≡◌, ◌≢◌, ℕ, zero, suc, ◌+◌, ◌<◌, ◌≤◌, ◌⊎◌, inl}
use Rattle.std.proofs.Common.{inr, ⊎_elim, List, [], ◌∷◌, ◌++◌, length, set, sym, refl, ap, ◌∙◌, subst, arith, eq-eqb}
use Rattle.std.proofs.{Common.ne_eqb, Common.length-append, lemmas.Bool.Decides.nat_tests, lemmas.List.append-nil}
use Rattle.pin_turn.specs.Counts.{Each, times, without, once_below, total, longer, shorter, of_shorter}
use mathlib.Core.Logic.{dite}
use mathlib.Core.Option.{some, some-injective, some-ne-none}
use native.Mathlib.Decide.{dec_le, ℕ_discrete}
use lib.ListN.{get_elem?}

module _ {A : Type 0} (f : A → ℕ) where
  pub total_set : (xs : List A) (i : ℕ) (a b : A) → get_elem? xs i ≡ some a
      → total f (set xs i b) + f a ≡ total f xs + f b
  total_set [] i a b e = absurd (some-ne-none a (sym e))
  total_set (x ∷ xs) zero a b e = let same : f x ≡ f a = ap f (some-injective x a e) in omega arith
  total_set (x ∷ xs) (suc i) a b e = let h = total_set xs i a b e in omega arith

  pub total_snoc : (xs : List A) (y : A) → total f (xs ++ y ∷ []) ≡ total f xs + f y
  total_snoc [] y = omega arith
  total_snoc (x ∷ xs) y = let h = total_snoc xs y in omega arith

  pub total_at : (xs : List A) (i : ℕ) (a : A) → get_elem? xs i ≡ some a → f a ≤ total f xs
  total_at [] i a e = absurd (some-ne-none a (sym e))
  total_at (x ∷ xs) zero a e = let same : f x ≡ f a = ap f (some-injective x a e) in omega arith
  total_at (x ∷ xs) (suc i) a e = let h = total_at xs i a e in omega arith

  pub total_two : (xs : List A) (i j : ℕ) (a b : A) → get_elem? xs i ≡ some a → get_elem? xs j ≡ some b → i ≢ j
      → f a + f b ≤ total f xs
  total_two [] i j a b e h n = absurd (some-ne-none a (sym e))
  total_two (x ∷ xs) zero zero a b e h n = absurd (n refl)
  total_two (x ∷ xs) zero (suc j) a b e h n =
      let same : f x ≡ f a = ap f (some-injective x a e) in
      let t = total_at xs j b h in
      omega arith
  total_two (x ∷ xs) (suc i) zero a b e h n =
      let same : f x ≡ f b = ap f (some-injective x b h) in
      let t = total_at xs i a e in
      omega arith
  total_two (x ∷ xs) (suc i) (suc j) a b e h n = let t = total_two xs i j a b e h (λ s. n (ap suc s)) in omega arith

  pub total_some : (xs : List A) → 0 < total f xs → (i : ℕ) × (a : A) × (get_elem? xs i ≡ some a) × (0 < f a)
  total_some [] h = absurd (omega arith)
  total_some (x ∷ xs) h = dite (ℕ_discrete (f x) 0)
      (λ none. let t = total_some xs (omega arith) in (suc t.0, t.1, t.2, t.3)) (λ some'. (zero, x, refl, omega arith))

module _ {A : Type 0} (P : A → Type 0) where
  pub Each-append : (xs ys : List A) → Each P xs → Each P ys → Each P (xs ++ ys)
  Each-append [] ys a b = b
  Each-append (x ∷ xs) ys a b = (a.0, Each-append xs ys a.1 b)

  pub Each-right : (xs ys : List A) → Each P (xs ++ ys) → Each P ys
  Each-right [] ys h = h
  Each-right (x ∷ xs) ys h = Each-right xs ys h.1

  pub Each-left : (xs ys : List A) → Each P (xs ++ ys) → Each P xs
  Each-left [] ys h = tt
  Each-left (x ∷ xs) ys h = (h.0, Each-left xs ys h.1)

  pub Each-map : (Q : A → Type 0) → ((x : A) → P x → Q x) → (xs : List A) → Each P xs → Each Q xs
  Each-map Q f [] h = tt
  Each-map Q f (x ∷ xs) h = (f x h.0, Each-map Q f xs h.1)

pub times-append : (n : ℕ) (xs ys : List ℕ) → times n (xs ++ ys) ≡ times n xs + times n ys
times-append n [] ys = omega arith
times-append n (x ∷ xs) ys = let h = times-append n xs ys in omega arith

pub times_here : (n : ℕ) → times n (n ∷ []) ≡ 1
times_here n = grind (arith, nat_tests)

pub times_else : (n k : ℕ) → k ≢ n → times n (k ∷ []) ≡ 0
times_else n k h = grind (arith, nat_tests)

pub times_one : (n k : ℕ) → times n (k ∷ []) ≤ 1
times_one n k = dite (ℕ_discrete k n) (λ e. let h = times_here n in let g : times n (k ∷ []) ≡ times n (n ∷ []) = ap
    (λ (z : ℕ). times n (z ∷ [])) e in omega arith) (λ e. let h = times_else n k e in omega arith)

-- one more k is below one more n
pub once_more : (k n : ℕ) → once_below k n + times k (n ∷ []) ≡ once_below k (n + 1)
once_more k n = grind (arith, nat_tests)

pub times-without : (n k : ℕ) (xs : List ℕ) → 0 < times k xs → times n (without k xs) + times n (k ∷ []) ≡ times n xs
times-without n k [] h = absurd (omega arith)
times-without n k (x ∷ xs) h = dite (ℕ_discrete x k)
    (λ e. subst (λ b. times n (cond b xs (x ∷ without k xs)) + times n (k ∷ []) ≡ times n (x ∷ xs)) (sym (eq-eqb x k e))
    (let g : times n (k ∷ []) ≡ times n (x ∷ []) = ap (λ (z : ℕ). times n (z ∷ [])) (sym e) in omega arith))
    (λ e. subst (λ b. times n (cond b xs (x ∷ without k xs)) + times n (k ∷ []) ≡ times n (x ∷ xs)) (sym (ne_eqb x k e))
    (let none = times_else k x e in let t = times-without n k xs (omega arith) in omega arith))

pub Each-without : (P : ℕ → Type 0) (k : ℕ) (xs : List ℕ) → Each P xs → Each P (without k xs)
Each-without P k [] h = tt
Each-without P k (x ∷ xs) h = dite (ℕ_discrete x k)
    (λ e. subst (λ b. Each P (cond b xs (x ∷ without k xs))) (sym (eq-eqb x k e)) h.1)
    (λ e. subst (λ b. Each P (cond b xs (x ∷ without k xs))) (sym (ne_eqb x k e)) (h.0, Each-without P k xs h.1))

-- where n stands in the list, what holds of each holds of n
pub Each_times : (P : ℕ → Type 0) (n : ℕ) (xs : List ℕ) → Each P xs → 0 < times n xs → P n
Each_times P n [] h t = absurd (omega arith)
Each_times P n (x ∷ xs) h t =
    dite (ℕ_discrete x n) (λ e. subst P e h.0) (λ e. let none = times_else n x e in Each_times P n xs h.1 (omega arith))

pub Each_of : (P : ℕ → Type 0) (xs : List ℕ) → ((n : ℕ) → 0 < times n xs → P n) → Each P xs
Each_of P [] h = tt
Each_of P (x ∷ xs) h = (h x (let t = times_here x in omega arith), Each_of P xs (λ n there. h n (omega arith)))

module _ {A : Type 0} where
  -- the first of two lists is the longer, or the second; where they are as long, the first
  abbrev pub FirstLonger : List A → List A → ℕ → ℕ → Type 0
  FirstLonger xs ys m n = (longer xs ys ≡ xs) × (shorter xs ys ≡ ys) × (of_shorter xs ys m n ≡ n)
      × (length ys ≤ length xs)

  abbrev pub SecondLonger : List A → List A → ℕ → ℕ → Type 0
  SecondLonger xs ys m n = (longer xs ys ≡ ys) × (shorter xs ys ≡ xs) × (of_shorter xs ys m n ≡ m)
      × (length xs ≤ length ys)

  pub sorted_cases : (xs ys : List A) (m n : ℕ) → FirstLonger xs ys m n ⊎ SecondLonger xs ys m n
  sorted_cases xs ys m n = dite (dec_le (length ys) (length xs))
      (λ h. let e : nat_lt (length xs) (length ys) ≡ false = grind (arith, nat_tests) in
      inl (
        ap (λ b. cond b ys xs) e,
        ap (λ b. cond b xs ys) e,
        ap (λ b. cond b m n) e,
        h,
      ))
      (λ h. let e : nat_lt (length xs) (length ys) ≡ true = grind (arith, nat_tests) in
      inr (
        ap (λ b. cond b ys xs) e,
        ap (λ b. cond b xs ys) e,
        ap (λ b. cond b m n) e,
        omega arith,
      ))

  -- of two beginnings of one list, the shorter begins the longer
  pub shorter_begins : (xs ys us bs : List A) → xs ++ us ≡ ys ++ bs → length xs ≤ length ys
      → (more : List A) × (ys ≡ xs ++ more) × (us ≡ more ++ bs)
  shorter_begins [] ys us bs e h = (ys, refl, e)
  shorter_begins (x ∷ xs) [] us bs e h = absurd (omega arith)
  shorter_begins (x ∷ xs) (y ∷ ys) us bs e h =
      let head : x ≡ y = cc in
      let tail : xs ++ us ≡ ys ++ bs = cc in
      let t = shorter_begins xs ys us bs tail (omega arith) in
      (t.0, (λ i. sym head i ∷ t.1 i), t.2)

  pub whole_if_long : (xs us log : List A) → log ≡ xs ++ us → length log ≤ length xs → xs ≡ log
  whole_if_long xs [] log e h = sym (append-nil xs) ∙ sym e
  whole_if_long xs (u ∷ us) log e h =
      let a = length-append xs (u ∷ us) in
      let b : length log ≡ length (xs ++ u ∷ us) = ap length e in
      absurd (omega arith)

  pub long_enough : (xs ys : List A) → (length xs ≤ length (longer xs ys)) × (length ys ≤ length (longer xs ys))
  long_enough xs ys = ⊎_elim (λ (c : FirstLonger xs ys 0 0). long xs c.0 (omega arith) c.3)
      (λ (c : SecondLonger xs ys 0 0). long ys c.0 c.3 (omega arith)) (sorted_cases xs ys 0 0)
    where
      long : (zs : List A) → longer xs ys ≡ zs → length xs ≤ length zs → length ys ≤ length zs
          → (length xs ≤ length (longer xs ys)) × (length ys ≤ length (longer xs ys))
      long zs e h g = let same : length (longer xs ys) ≡ length zs = ap length e in (omega arith, omega arith)

  pub Each-any : (P : A → Type 0) → ((x : A) → P x) → (xs : List A) → Each P xs
  Each-any P f [] = tt
  Each-any P f (x ∷ xs) = (f x, Each-any P f xs)

  pub total_only : (f : A → ℕ) (xs : List A) (i : ℕ) (a : A) → get_elem? xs i ≡ some a
      → ((j : ℕ) (b : A) → j ≢ i → get_elem? xs j ≡ some b → f b ≡ 0) → total f xs ≡ f a
  total_only f [] i a e none' = absurd (some-ne-none a (sym e))
  total_only f (x ∷ xs) zero a e none' =
      let same : f x ≡ f a = ap f (some-injective x a e) in
      let rest = total_none f xs (λ j b h. none' (suc j) b (λ s. omega arith) h) in
      omega arith
    where
      total_none : (f : A → ℕ) (xs : List A) → ((j : ℕ) (b : A) → get_elem? xs j ≡ some b → f b ≡ 0) → total f xs ≡ 0
      total_none f [] none' = refl
      total_none f (x ∷ xs) none' =
          let a = none' 0 x refl in
          let b = total_none f xs (λ j c h. none' (suc j) c h) in
          omega arith
  total_only f (x ∷ xs) (suc i) a e none' =
      let here : f x ≡ 0 = none' 0 x (λ s. omega arith) refl in
      let rest = total_only f xs i a e (λ j b n h. none' (suc j) b (λ s. n (omega arith)) h) in
      omega arith

pub or_cases : (a b : Bool) → a || b ≡ true → (a ≡ true) ⊎ (b ≡ true)
or_cases true b h = inl refl
or_cases false b h = inr h

length-without : (k : ℕ) (xs : List ℕ) → 0 < times k xs → length (without k xs) + 1 ≡ length xs
length-without k [] h = absurd (omega arith)
length-without k (x ∷ xs) h = dite (ℕ_discrete x k)
    (λ e. subst (λ b. length (cond b xs (x ∷ without k xs)) + 1 ≡ length (x ∷ xs))
    (sym (eq-eqb x k e)) (omega arith))
    (λ e. subst (λ b. length (cond b xs (x ∷ without k xs)) + 1 ≡ length (x ∷ xs))
    (sym (ne_eqb x k e))
    (let none' = times_else k x e in let t = length-without k xs (omega arith) in omega arith))

-- a list that has each number below n once, and no other, has n members
pub counted_length : (n : ℕ) (xs : List ℕ) → ((k : ℕ) → times k xs ≡ once_below k n) → length xs ≡ n
counted_length zero [] h = refl
counted_length zero (x ∷ xs) h =
    let a = h x in
    let b = times_here x in
    let c : once_below x 0 ≡ 0 = grind (arith, nat_tests) in
    absurd (omega arith)
counted_length (suc n) xs h =
    let last : once_below n (suc n) ≡ 1 = grind (arith, nat_tests) in
    let a = h n in
    let some' : 0 < times n xs = omega arith in
    let rest = counted_length n
    (without n xs) (λ k. let b = times-without k n xs some' in let c = h k in let d = once_more k n in
    let e : once_below k (n + 1) ≡ once_below k (suc n) = ap (once_below k) (omega arith) in omega arith) in
    let l = length-without n xs some' in omega arith

-- a seat that was split off and joined again leaves `away` as it was
pub without_last : (n : ℕ) (xs : List ℕ) → Each (λ k. k < n) xs → without n (xs ++ n ∷ []) ≡ xs
without_last n [] h = ap (λ b. cond b [] (n ∷ [])) (eq-eqb n n refl)
without_last n (x ∷ xs) h = ap (λ b. cond b (xs ++ n ∷ []) (x ∷ without n (xs ++ n ∷ [])))
    (ne_eqb x n (λ e. let low = h.0 in omega arith)) ∙ ap (λ l. x ∷ l) (without_last n xs h.1)

pub times_last : (n : ℕ) (xs : List ℕ) → 0 < times n (xs ++ n ∷ [])
times_last n xs = let a = times-append n xs (n ∷ []) in let b = times_here n in omega arith
