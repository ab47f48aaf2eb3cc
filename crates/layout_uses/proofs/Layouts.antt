-- Layouts by their numbers, and how often the blocks of those that are used come.
use Rattle.layout_uses.proofs.Common.{◌≡◌, ⊎_elim, refl, sym, ap, ◌∙◌, ℕ, zero, suc, ◌+◌, ◌≤◌, ◌<◌, Bool, true}
use Rattle.layout_uses.proofs.Common.{false, List, [], ◌∷◌, ◌++◌, ◌⊎◌, inl, inr, if◌then◌else◌, eqb, arith, cases_eq}
use Rattle.layout_uses.proofs.Common.{eq-eqb, ne_eqb, times, layout_blocks, Track, numbers_of, has_number, track_blocks}
use Rattle.layout_uses.proofs.Common.{used_blocks, AgreesWith, AreNumbered, times_named}
use Rattle.std.proofs.Common.{◌≢◌}
use Rattle.layout_uses.proofs.Times.{named_append}

-- how often an id comes in the layouts that are used
abbrev pub times_used : ℕ → List Track → ℕ
times_used id ts = times_named id (used_blocks ts)

abbrev pub times_in : ℕ → Track → ℕ
times_in id t = times_named id (layout_blocks t.layout)

-- ---- numbers

pub number_here : (n : ℕ) (t : Track) (ts : List Track) → t.number ≡ n → has_number n (t ∷ ts) ≡ true
number_here n t ts e = rw (eq-eqb t.number n e) refl

pub number_other : (n : ℕ) (t : Track) (ts : List Track) → t.number ≢ n → has_number n (t ∷ ts) ≡ has_number n ts
number_other n t ts ne = rw (ne_eqb t.number n ne) refl

pub times_number : (n : ℕ) (ts : List Track) → has_number n ts ≡ true → 0 < times n (numbers_of ts)
times_number n [] is = absurd cc
times_number n (t ∷ ts) is = search (arith, times_number n ts, eq-eqb, number_other, ne_eqb, cases_eq)

pub times_no_number : (n : ℕ) (ts : List Track) → has_number n ts ≡ false → times n (numbers_of ts) ≡ 0
times_no_number n [] is = refl
times_no_number n (t ∷ ts) is = ⊎_elim
    (λ same. absurd (true_false (sym (number_here n t ts same) ∙ is)))
    (λ ne.
    let rest = times_no_number n ts (sym (number_other n t ts ne) ∙ is) in
    let none : eqb t.number n ≡ false = ne_eqb t.number n ne in
    rw none (omega (arith, rest)))
    (cases_eq t.number n)
  where
    true_false : true ≡ false → ⊥
    true_false e = cc

pub number_cases : (b : Bool) → (b ≡ true) ⊎ (b ≡ false)
number_cases true = inl refl
number_cases false = inr refl

-- ---- one track more in front

pub each_again : (id : ℕ) (t : Track) (ts : List Track) → has_number t.number ts ≡ true
    → times_used id (t ∷ ts) ≡ times_used id ts
each_again id t ts is = rw is refl

pub each_first : (id : ℕ) (t : Track) (ts : List Track) → has_number t.number ts ≡ false
    → times_used id (t ∷ ts) ≡ times_in id t + times_used id ts
each_first id t ts is = rw is (named_append id (layout_blocks t.layout) (used_blocks ts))

-- ---- a track that stands after others, in front of them

pub number_moved : (n : ℕ) (t : Track) (xs ys : List Track)
    → has_number n (xs ++ t ∷ ys) ≡ has_number n (t ∷ (xs ++ ys))
number_moved n t [] ys = refl
number_moved n t (x ∷ xs) ys = ap (λ (b : Bool). if eqb x.number n then true else b) (number_moved n t xs ys)
    ∙ swapped (eqb x.number n) (eqb t.number n) (has_number n (xs ++ ys))
  where
    swapped : (a b c : Bool) → (if a then true else if b then true else c) ≡ (if b then true else if a then true else c)
    swapped true true c = refl
    swapped true false c = refl
    swapped false true c = refl
    swapped false false c = refl

pub pos_cases : (n : ℕ) → (n ≡ 0) ⊎ (0 < n)
pos_cases zero = inl refl
pos_cases (suc n) = inr (omega arith)

layout_in : (id : ℕ) (t u : Track) → t.layout ≡ u.layout → times_in id t ≡ times_in id u
layout_in id t u e = ap (λ l. times_named id (layout_blocks l)) e

-- what one track more adds, whether its layout is used again or first
each_used : (id : ℕ) (t : Track) (ts : List Track) (again : Bool) → has_number t.number ts ≡ again
    → times_used id (t ∷ ts) ≡ times_used id ts + (if again then 0 else times_in id t)
each_used id t ts true is = omega (arith, each_again id t ts is)
each_used id t ts false is = omega (arith, each_first id t ts is)

-- tracks of one layout in front of others
times_same : (id : ℕ) (t u : Track) (ts : List Track) → t.number ≡ u.number → t.layout ≡ u.layout
    → times_used id (t ∷ ts) ≡ times_used id (u ∷ ts)
times_same id t u ts number layout = search (arith, each_used, layout_in)

-- two tracks of different layouts in front of others
times_swapped : (id : ℕ) (t x : Track) (ts m : List Track) → x.number ≢ t.number
    → has_number x.number m ≡ has_number x.number ts → times_used id m ≡ times_used id (t ∷ ts)
    → times_used id (x ∷ m) ≡ times_used id (t ∷ x ∷ ts)
times_swapped id t x ts m ne number used = swapped (has_number t.number ts) (has_number x.number ts) refl number refl
  where
    over : (u n k : ℕ) → u + n + k ≡ u + k + n
    over u n k = omega arith

    swapped : (a b : Bool) → has_number t.number ts ≡ a → has_number x.number m ≡ b → has_number x.number ts ≡ b
        → times_used id (x ∷ m) ≡ times_used id (t ∷ x ∷ ts)
    swapped a b first more is =
        let n : ℕ = if a then 0 else times_in id t in
        let k : ℕ = if b then 0 else times_in id x in
        let one = each_used id x m b more in
        let two = each_used id x ts b is in
        let three = each_used id t ts a first in
        let four = each_used id t (x ∷ ts) a (number_other t.number x ts ne ∙ first) in
        one ∙ ap (λ (z : ℕ). z + k) (used ∙ three) ∙ over (times_used id ts) n k ∙ ap (λ (z : ℕ). z + n) (sym two)
        ∙ sym four

pub times_moved : (id : ℕ) (t : Track) (xs ys : List Track) → AgreesWith t xs
    → times_used id (xs ++ t ∷ ys) ≡ times_used id (t ∷ (xs ++ ys))
times_moved id t [] ys agree = refl
times_moved id t (x ∷ xs) ys agree =
    search (
      arith,
      times_moved id t xs ys agree.1,
      number_moved,
      number_here,
      each_again,
      times_same,
      times_swapped,
      number_other,
      cases_eq,
    )

-- ---- the blocks of layouts that are used are those that the tracks name

pub used_most : (id : ℕ) (ts : List Track) → times_used id ts ≤ times_named id (track_blocks ts)
used_most id [] = omega arith
used_most id (t ∷ ts) = search (arith, used_most id ts, each_again, named_append, each_first, number_cases)

pub used_more : (id : ℕ) (t : Track) (ts : List Track) → times_used id ts ≤ times_used id (t ∷ ts)
used_more id t ts = search (arith, each_again, each_first, number_cases)

-- a layout that is used again names no more than those after it
pub again_most : (id : ℕ) (t : Track) (ts : List Track) → AgreesWith t ts → has_number t.number ts ≡ true
    → times_in id t ≤ times_used id ts
again_most id t [] agree is = absurd cc
again_most id t (u ∷ us) agree is =
    search (
      arith,
      again_most id t us agree.1,
      each_again,
      each_first,
      layout_in,
      number_cases,
      number_other,
      used_more,
      cases_eq,
    )

pub used_all : (id : ℕ) (ts : List Track) → AreNumbered ts → 0 < times_named id (track_blocks ts)
    → 0 < times_used id ts
used_all id [] numbered some = absurd (omega (arith, some))
used_all id (t ∷ ts) numbered some =
    search (
      arith,
      used_all id ts numbered.1,
      named_append,
      again_most,
      each_again,
      each_first,
      number_cases,
      used_more,
      pos_cases,
    )
