-- Numbers that layouts get.
use Rattle.layout_uses.proofs.Common.{◌≡◌, ⊎_elim, inl, inr, sym, ap, ◌∙◌, ℕ, ◌≤◌, ◌<◌, List, [], ◌∷◌}
use Rattle.layout_uses.proofs.Common.{◌++◌, arith, map, Some, length, slice_get, zero, suc, cases_eq, eq-eqb, ne_eqb}
use Rattle.layout_uses.proofs.Common.{length-map, Track, AllBelow, track_of, unnumbered, Agree, AgreesWith, AreDrawn}
use Rattle.layout_uses.proofs.Common.{AreNumbered, Draws, HasNumbers, AreAmong, IsAmong}
use Rattle.project_state.specs.{Numbers.AreNewOrCurrent}
use Rattle.layout_uses.proofs.{Numbers.among_agrees, Moves.flipped}

pub found_among : (id : ℕ) (ts : List Track) (t : Track) → track_of id ts ≡ Some t → IsAmong t ts
found_among id [] t is = absurd cc
found_among id (u ∷ us) t is = search (arith, found_among id us t, eq-eqb, ne_eqb, cases_eq)

-- a track at a place is among all
pub at_among : (ts : List Track) (i : ℕ) (t : Track) → slice_get ts i ≡ Some t → IsAmong t ts
at_among [] i t here = absurd cc
at_among (u ∷ us) zero t here = let same : u ≡ t = cc in inl same
at_among (u ∷ us) (suc i) t here = inr (at_among us i t here)

-- one that has a number is a current one
pub kept_among : (current ts : List Track) (i : ℕ) (t : Track) → slice_get ts i ≡ Some t → AreNewOrCurrent current ts
    → 0 < t.number → IsAmong t current
kept_among current [] i t here kept some = absurd cc
kept_among current (u ∷ us) zero t here kept some = search (arith, found_among)
kept_among current (u ∷ us) (suc i) t here kept some = kept_among current us i t here kept.1 some

-- ---- a track more at the end

agrees_at : (t x : Track) (xs ys : List Track) → Agree x t → AgreesWith x (xs ++ ys) → AgreesWith x
    ((xs ++ t ∷ []) ++ ys)
agrees_at t x [] ys one agree = (one, agree)
agrees_at t x (z ∷ zs) ys one agree = (agree.0, agrees_at t x zs ys one agree.1)

numbered_at : (t : Track) (xs ys : List Track) → AgreesWith t (xs ++ ys) → AreNumbered (xs ++ ys)
    → AreNumbered ((xs ++ t ∷ []) ++ ys)
numbered_at t [] ys agree numbered = (agree, numbered)
numbered_at t (x ∷ xs) ys agree numbered = search (arith, numbered_at t xs ys agree.1 numbered.1, agrees_at, flipped)

drawn_at : (next : ℕ) (t : Track) (xs ys : List Track) → t.number < next → AreDrawn next (xs ++ ys)
    → AreDrawn next ((xs ++ t ∷ []) ++ ys)
drawn_at next t [] ys below drawn = (below, drawn)
drawn_at next t (x ∷ xs) ys below drawn = (drawn.0, drawn_at next t xs ys below drawn.1)

pub drawn_up : (low high : ℕ) (ts : List Track) → low ≤ high → AreDrawn low ts → AreDrawn high ts
drawn_up low high [] le drawn = tt
drawn_up low high (t ∷ ts) le drawn = (omega (arith, le, drawn.0), drawn_up low high ts le drawn.1)

pub drawn_one : (next : ℕ) (t : Track) (ts : List Track) → AreDrawn next ts → IsAmong t ts → t.number < next
drawn_one next t [] drawn among = absurd among
drawn_one next t (u ∷ us) drawn among = search (arith, drawn_one next t us drawn.1)

pub above_agrees : (next : ℕ) (t : Track) (ts : List Track) → AreDrawn next ts → t.number ≡ next → AgreesWith t ts
above_agrees next t [] drawn e = tt
above_agrees next t (u ∷ us) drawn e = search (arith, above_agrees next t us drawn.1 e)

pub among_all : (t : Track) (xs ts : List Track) → AreAmong xs ts → IsAmong t xs → IsAmong t ts
among_all t [] ts all among = absurd among
among_all t (x ∷ xs) ts all among = search (arith, among_all t xs ts all.1)

pub among_behind : (t : Track) (xs ts : List Track) → IsAmong t ts → IsAmong t (xs ++ ts)
among_behind t [] ts among = among
among_behind t (x ∷ xs) ts among = inr (among_behind t xs ts among)

pub like_agrees : (t u : Track) (ts : List Track) → t.layout ≡ u.layout → t.number ≡ u.number → AgreesWith t ts
    → AgreesWith u ts
like_agrees t u [] layout number agree = tt
like_agrees t u (x ∷ xs) layout number agree = search (arith, like_agrees t u xs layout number agree.1)

pub numbers_none : (current : List Track) (next : ℕ) → HasNumbers current next [] next
numbers_none current next = search arith

module _ (current : List Track) (next : ℕ) (point : List Track) (last : ℕ) (was : HasNumbers current next point last)
    (t : Track) (draws : Draws t.layout current last t.number) (after : ℕ) (up : last ≤ after)
    (below : t.number ≡ last → last < after) where
  pub numbers_more : HasNumbers current next (point ++ t ∷ []) after
  numbers_more = record {
    least = omega (arith, was.least, up);
    numbered = λ ts numbered drawn among.
        let all = was.numbered ts numbered drawn among in
        numbered_at t point ts
        (⊎_elim
        (λ old. like_agrees old.0 t (point ++ ts) old.2 old.3
        (among_agrees old.0 (point ++ ts) all (among_behind old.0 point ts (among_all old.0 current ts among old.1))))
        (λ new. above_agrees last t (point ++ ts) (was.drawn ts drawn among) new)
        draws)
        all;
    drawn = λ ts drawn among.
        drawn_at after t point ts
        (⊎_elim
        (λ old.
        let low = drawn_one next old.0 ts drawn (among_all old.0 current ts among old.1) in
        omega (arith, low, old.3, was.least, up))
        (λ new. omega (arith, new, below new))
        draws)
        (drawn_up last after (point ++ ts) up (was.drawn ts drawn among));
  }

-- a current track more at the end
module _ (current : List Track) (next : ℕ) (point : List Track) (last : ℕ) (was : HasNumbers current next point last)
    (t : Track) (among : IsAmong t current) where
  pub numbers_kept : HasNumbers current next (point ++ t ∷ []) last
  numbers_kept = search (arith, numbered_at, among_agrees, among_behind, among_all, drawn_one, drawn_at)

-- ids of tracks that are the same but for their numbers
pub below_same : (id : ℕ) (xs ys : List Track) → map unnumbered xs ≡ map unnumbered ys → AllBelow id ys → AllBelow id xs
below_same id [] ys same below = tt
below_same id (x ∷ xs) [] same below = absurd cc
below_same id (x ∷ xs) (y ∷ ys) same below = search (arith, below_same id xs ys)

-- as many tracks
pub same_length : (xs ys : List Track) → map unnumbered xs ≡ map unnumbered ys → length xs ≡ length ys
same_length xs ys same = sym (length-map xs unnumbered) ∙ ap length same ∙ length-map ys unnumbered

-- tracks that are heard the same way, and have the same clips, are the same but for their numbers
pub same_but_number : (t u : Track) → t.id ≡ u.id → t.gain ≡ u.gain → t.side ≡ u.side → t.mute ≡ u.mute
    → t.layout ≡ u.layout → unnumbered t ≡ unnumbered u
same_but_number t u id gain side mute layout = search arith
