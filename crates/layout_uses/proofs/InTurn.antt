-- Histories whose layouts get their numbers as points come.
use Rattle.layout_uses.proofs.Common.{◌≡◌, inl, inr, sym, ap, ◌∙◌, subst, ℕ, zero, suc, Bool, true, false, List, []}
use Rattle.layout_uses.proofs.Common.{◌∷◌, ◌++◌, if◌then◌else◌, map, take, drop, slice_get, Some, ⊎_elim, arith}
use Rattle.layout_uses.proofs.Common.{append-nil, drop-map, map-append, History, IsHistory, amended, edited}
use Rattle.layout_uses.proofs.Common.{history_of_one, point_of, points_of, purged, recorded, Track, unnumbered}
use Rattle.layout_uses.proofs.Common.{unnumbered_history, AreDrawn, AreNumbered, history_tracks, points_tracks}
use Rattle.layout_uses.proofs.Common.{DrawsPoint, IsNumbered, AreAmong, IsAmong}
use Rattle.pcm_base.specs.History.{is_of_recording}
use Rattle.layout_uses.proofs.Histories.{points_split, so_amended, so_edited, tracks_append}
use Rattle.layout_uses.proofs.Moves.{drawn_swapped, drawn_without, numbered_swapped, numbered_without}
use Rattle.layout_uses.proofs.Putting.{among_self}

-- ---- a point among all

abbrev Tagged : Type 0
Tagged = List Track × ℕ

among_left : (t : Track) (xs ys : List Track) → IsAmong t xs → IsAmong t (xs ++ ys)
among_left t [] ys among = absurd among
among_left t (x ∷ xs) ys among = ⊎_elim (λ same. inl same) (λ there. inr (among_left t xs ys there)) among

among_right : (t : Track) (xs ys : List Track) → IsAmong t ys → IsAmong t (xs ++ ys)
among_right t [] ys among = among
among_right t (x ∷ xs) ys among = inr (among_right t xs ys among)

all_left : (ts xs ys : List Track) → AreAmong ts xs → AreAmong ts (xs ++ ys)
all_left [] xs ys all = tt
all_left (t ∷ ts) xs ys all = (among_left t xs ys all.0, all_left ts xs ys all.1)

all_right : (ts xs ys : List Track) → AreAmong ts ys → AreAmong ts (xs ++ ys)
all_right [] xs ys all = tt
all_right (t ∷ ts) xs ys all = (among_right t xs ys all.0, all_right ts xs ys all.1)

pub point_among : (ps : List (List Track)) (i : ℕ) (p : List Track) → slice_get ps i ≡ Some p
    → AreAmong p (points_tracks ps)
point_among [] i p here = absurd cc
point_among (q ∷ qs) zero p here = search (arith, all_left, among_self)
point_among (q ∷ qs) (suc i) p here = all_right p q (points_tracks qs) (point_among qs i p here)

-- ---- one point

pub first_numbers : (tag depth : ℕ) (tracks point : List Track) (after : ℕ) → DrawsPoint tracks [] 1 point after
    → IsNumbered (history_of_one point tag depth) after
first_numbers tag depth tracks point after draws = search arith

-- ---- a point after all others

abbrev plain : Tagged → Tagged
plain p = (map unnumbered p.0, p.1)

-- without numbers it is the one that was said
pub plain_last : (h : History (List Track)) (point tracks : List Track) (tag : ℕ) → map unnumbered point ≡ tracks
    → unnumbered_history (record h { points = h.points ++ (point, tag) ∷ [] })
    ≡ record (unnumbered_history h) { points = (unnumbered_history h).points ++ (tracks, tag) ∷ [] }
plain_last h point tracks tag same = search (arith, map-append)

tracks_then : (ps : List Tagged) (p : Tagged)
    → points_tracks (map point_of (ps ++ p ∷ [])) ≡ points_tracks (map point_of ps) ++ p.0
tracks_then ps p = search (arith, map-append, tracks_append, append-nil)

module _ (h : History (List Track)) (next after tag : ℕ) (tracks current point : List Track) (is : IsNumbered h next)
    (among : AreAmong current (history_tracks h)) (draws : DrawsPoint tracks current next point after) where
  abbrev old : List Track
  old = history_tracks h

  numbered_so : AreNumbered (point ++ old)
  numbered_so = draws.numbered old is.numbered is.drawn among

  drawn_so : AreDrawn after (point ++ old)
  drawn_so = draws.drawn old is.drawn among

  all_are : old ++ (point ++ []) ≡ points_tracks (map point_of (h.points ++ (point, tag) ∷ []))
  all_are = ap (λ (ts : List Track). old ++ ts) (append-nil point) ∙ sym (tracks_then h.points (point, tag))

  pub last_numbers : IsNumbered (record h { points = h.points ++ (point, tag) ∷ [] }) after
  last_numbers = search (arith, all_are, numbered_swapped, append-nil, numbered_so, drawn_swapped, drawn_so)

-- ---- a point that is recorded, and points that go

module _ (P : List Track → Type 0) (less : (xs ys zs : List Track) → P (xs ++ (ys ++ zs)) → P (xs ++ zs))
    (h : History (List Track)) where
  recorded_all : ((xs ys zs : List Track) → P (xs ++ (ys ++ zs)) → P (ys ++ (xs ++ zs))) → IsHistory h
      → (p : List Track) (tag : ℕ) → P (p ++ history_tracks h) → P (history_tracks (recorded h p tag))
  recorded_all moved is p tag so = by (is_of_recording h tag)
    where
      all : P (p ++ (history_tracks h ++ []))
      all = subst (λ (ts : List Track). P (p ++ ts)) (sym (append-nil (history_tracks h))) so

      by : (again : Bool) → P (history_tracks (if again then amended h p else edited h p tag))
      by true = subst P (append-nil (history_tracks (amended h p))) (so_amended h is p P less moved [] all)
      by false = subst P (append-nil (history_tracks (edited h p tag))) (so_edited h is p P less moved [] all tag)

  purged_all : (n : ℕ) → P (history_tracks h) → P (history_tracks (purged h n))
  purged_all n so =
      let ps = points_of h in
      subst (λ (qs : List (List Track)). P (points_tracks qs)) (drop-map point_of n h.points)
      (less [] (points_tracks (take n ps)) (points_tracks (drop n ps)) (subst P (points_split n ps) so))

pub recorded_numbers : (h : History (List Track)) (next after tag : ℕ) (tracks current point : List Track) → IsHistory h
    → IsNumbered h next → AreAmong current (history_tracks h) → DrawsPoint tracks current next point after
    → IsNumbered (recorded h point tag) after
recorded_numbers h next after tag tracks current point whole is among draws = record {
  numbered = recorded_all AreNumbered numbered_without h numbered_swapped whole point tag
      (numbered_so h next after tag tracks current point is among draws);
  drawn = recorded_all (AreDrawn after) (drawn_without after) h (drawn_swapped after) whole point tag
      (drawn_so h next after tag tracks current point is among draws);
  least = omega (arith, is.least, draws.least);
}

pub purged_numbers : (h : History (List Track)) (next n : ℕ) → IsNumbered h next → IsNumbered (purged h n) next
purged_numbers h next n is = record {
  numbered = purged_all AreNumbered numbered_without h n is.numbered;
  drawn = purged_all (AreDrawn next) (drawn_without next) h n is.drawn;
  least = is.least;
}
