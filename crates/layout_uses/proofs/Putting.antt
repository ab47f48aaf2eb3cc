-- Points that differ from the current one in some tracks, by the numbers of their layouts.
use Rattle.layout_uses.proofs.Common.{◌≡◌, ◌⊎◌, ⊎_elim, inl, inr, refl, sym, ◌∙◌, ℕ, ◌+◌, ◌<◌, List, [], ◌∷◌}
use Rattle.layout_uses.proofs.Common.{◌++◌, arith, cases_eq, ne_eqb, Clip, Track, put_in, put_same, put_other}
use Rattle.layout_uses.proofs.Common.{AgreesWith, AreDrawn, AreNumbered, HasNumbers, AreAmong, IsAmong}
use Rattle.std.specs.List.{AllByRecursion}
use Rattle.project_state.specs.{Tracks.without}
use Rattle.project_state.proofs.Points.{other_keeps, other_same}
use Rattle.layout_uses.proofs.Draws.{above_agrees, among_all, among_behind, drawn_one, like_agrees}
use Rattle.layout_uses.proofs.Numbers.{among_agrees}

-- ---- tracks of a point among those of another

among_more : (t : Track) (xs ts : List Track) → AreAmong xs ts → AreAmong xs (t ∷ ts)
among_more t [] ts all = tt
among_more t (x ∷ xs) ts all = (inr all.0, among_more t xs ts all.1)

pub among_self : (ts : List Track) → AreAmong ts ts
among_self [] = tt
among_self (t ∷ ts) = (inl refl, among_more t ts ts (among_self ts))

-- ---- each track like a current one

-- the layout of a current track, with its number
pub record IsLike (current : List Track) (t : Track) : Type 0 where
  pub old : Track
  pub among : IsAmong old current
  pub number : old.number ≡ t.number
  pub layout : old.layout ≡ t.layout

pub like_itself : (current : List Track) (t : Track) → IsAmong t current → IsLike current t
like_itself current t among = record { old = t; among = among; number = refl; layout = refl }

module _ (current : List Track) (next : ℕ) where
  -- a layout of a current track is like all that are there
  like_here : (t : Track) (xs ts : List Track) → IsLike current t → AreNumbered (xs ++ ts) → AreAmong current ts
      → AgreesWith t (xs ++ ts)
  like_here t xs ts like numbered all =
      like_agrees like.old t (xs ++ ts) like.layout like.number
      (among_agrees like.old (xs ++ ts) numbered (among_behind like.old xs ts
      (among_all like.old current ts all like.among)))

  like_below : (t : Track) (ts : List Track) → IsLike current t → AreDrawn next ts → AreAmong current ts
      → t.number < next
  like_below t ts like drawn all = search (arith, drawn_one, among_all)

  -- a point of such layouts alone needs no number
  pub like_numbers : (xs : List Track) → AllByRecursion (IsLike current) xs → HasNumbers current next xs next
  like_numbers [] like = search arith
  like_numbers (x ∷ xs) like =
      let rest = like_numbers xs like.1 in
      record {
        least = omega arith;
        numbered = λ ts numbered drawn all.
            let more = rest.numbered ts numbered drawn all in
            (like_here x xs ts like.0 more all, more);
        drawn = λ ts drawn all. (like_below x ts like.0 drawn all, rest.drawn ts drawn all);
      }

  -- ---- and one new layout

  abbrev pub IsOf : List Clip → Track → Type 0
  IsOf layout t = IsLike current t ⊎ ((t.number ≡ next) × (t.layout ≡ layout))

  new_here : (layout : List Clip) (t : Track) (xs ts : List Track) → t.number ≡ next → t.layout ≡ layout
      → AllByRecursion (IsOf layout) xs → AreDrawn next ts → AreAmong current ts → AgreesWith t (xs ++ ts)
  new_here layout t [] ts number same of drawn all = above_agrees next t ts drawn number
  new_here layout t (x ∷ xs) ts number same of drawn all = (
    ⊎_elim
        (λ like e. absurd (omega (arith, like_below x ts like drawn all, e, number)))
        (λ new e. same ∙ sym new.1)
        of.0,
    new_here layout t xs ts number same of.1 drawn all,
  )

  -- a point with one new layout needs one number
  pub new_numbers : (layout : List Clip) (xs : List Track) → AllByRecursion (IsOf layout) xs
      → HasNumbers current next xs (next + 1)
  new_numbers layout [] of =
      record { least = omega arith; numbered = λ ts numbered drawn all. numbered; drawn = λ ts drawn all. up ts drawn }
    where
      up : (ts : List Track) → AreDrawn next ts → AreDrawn (next + 1) ts
      up [] drawn = tt
      up (t ∷ ts) drawn = (omega (arith, drawn.0), up ts drawn.1)
  new_numbers layout (x ∷ xs) of =
      let rest = new_numbers layout xs of.1 in
      record {
        least = omega arith;
        numbered = λ ts numbered drawn all.
            let more = rest.numbered ts numbered drawn all in (
              ⊎_elim
                  (λ like. like_here x xs ts like more all)
                  (λ new. new_here layout x xs ts new.0 new.1 of.1 drawn all)
                  of.0,
              more,
            );
        drawn = λ ts drawn all. (
          ⊎_elim
              (λ like. omega (arith, like_below x ts like drawn all))
              (λ new. omega (arith, new.0))
              of.0,
          rest.drawn ts drawn all,
        );
      }

-- ---- a track in the place of the one with its id

put_of : (current : List Track) (next : ℕ) (new : Track) (ts : List Track) → new.number ≡ next → AreAmong ts current
    → AllByRecursion (IsOf current next new.layout) (put_in new ts)
put_of current next new [] number all = tt
put_of current next new (t ∷ ts) number all =
    search (arith, put_of current next new ts number all.1, put_same, put_other, ne_eqb, like_itself, cases_eq)

-- with a new layout
pub put_numbers : (current : List Track) (new : Track) → HasNumbers current new.number (put_in new current)
    (new.number + 1)
put_numbers current new = search (arith, new_numbers, put_of, among_self)

put_like : (current : List Track) (new : Track) (ts : List Track) → IsLike current new → AreAmong ts current
    → AllByRecursion (IsLike current) (put_in new ts)
put_like current new [] like all = tt
put_like current new (t ∷ ts) like all =
    search (arith, put_like current new ts like all.1, put_same, put_other, ne_eqb, like_itself, cases_eq)

-- with a layout that is there
pub set_numbers : (current : List Track) (next : ℕ) (new : Track) → IsLike current new
    → HasNumbers current next (put_in new current) next
set_numbers current next new like = search (arith, like_numbers, put_like, among_self)

without_like : (current : List Track) (id : ℕ) (ts : List Track) → AreAmong ts current
    → AllByRecursion (IsLike current) (without id ts)
without_like current id [] all = tt
without_like current id (t ∷ ts) all =
    search (arith, without_like current id ts all.1, other_same, other_keeps, ne_eqb, like_itself, cases_eq)

-- ---- without the track of an id

pub without_numbers : (current : List Track) (next id : ℕ) → HasNumbers current next (without id current) next
without_numbers current next id = search (arith, like_numbers, without_like, among_self)

-- ---- the same point

pub same_numbers : (current : List Track) (next : ℕ) → HasNumbers current next current next
same_numbers current next = like_numbers current next current (each current (among_self current))
  where
    each : (ts : List Track) → AreAmong ts current → AllByRecursion (IsLike current) ts
    each [] all = tt
    each (t ∷ ts) all = (like_itself current t all.0, each ts all.1)
