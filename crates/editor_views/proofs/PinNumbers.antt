-- Pins by their numbers, and the blocks that they name.
use Rattle.editor_views.proofs.Common.{◌≡◌, ◌≢◌, take, drop, refl, sym, ap, ◌∙◌, ℕ, ◌+◌, ◌≤◌, ◌<◌, List}
use Rattle.editor_views.proofs.Common.{[], ◌∷◌, ◌++◌, Some, None, arith, append-nil, AllByRecursion, BlockRef}
use Rattle.editor_views.proofs.Common.{Sources, with_pin, without_pin, Track, meant, point_blocks, all_append, Pin}
use Rattle.editor_views.proofs.Common.{PinsRise, pin_at, pin_blocks, LacksPin, all_left, all_right}
use Rattle.std.proofs.Common.{slice_get, rules}
use Rattle.std.proofs.lemmas.Bool.{eq-eqb, ne_eqb}
use Rattle.std.proofs.lemmas.List.{append_assoc, take-append-drop}
use Rattle.std.proofs.{lemmas.Bool.Decides.eqb_tells, lemmas.Grind.flat_map-append}
use Rattle.project_state.proofs.Points.{take_some}

-- an element of a list, and what is around it
pub around : {X : Type 0} (xs : List X) (i : ℕ) (x : X) → slice_get xs i ≡ Some x
    → xs ≡ take i xs ++ x ∷ drop (i + 1) xs
around xs i x here = sym (take-append-drop (i + 1) xs) ∙ ap (λ z. z ++ drop (i + 1) xs) (take_some xs i x here)
    ∙ append_assoc (take i xs) (x ∷ []) (drop (i + 1) xs)

-- ---- their order

pub rise_more : (least next : ℕ) (ps : List Pin) (point : List Track) → PinsRise least next ps → least ≤ next
    → PinsRise least (next + 1) (ps ++ record { number = next; point = point } ∷ [])
rise_more least next [] point rise le = (le, omega arith, tt)
rise_more least next (p ∷ ps) point rise le =
    (rise.0, omega (arith, rise.1), rise_more (p.number + 1) next ps point rise.2 (omega (arith, rise.1)))

rise_from : (least from next : ℕ) (ps : List Pin) → PinsRise from next ps → least ≤ from → PinsRise least next ps
rise_from least from next [] rise le = tt
rise_from least from next (p ∷ ps) rise le = (omega (arith, rise.0, le), rise.1, rise.2)

pub rise_less : (least next : ℕ) (front back : List Pin) (pin : Pin) → PinsRise least next (front ++ pin ∷ back)
    → PinsRise least next (front ++ back)
rise_less least next [] back pin rise = rise_from least (pin.number + 1) next back rise.2 (omega (arith, rise.0))
rise_less least next (q ∷ qs) back pin rise = (rise.0, rise.1, rise_less (q.number + 1) next qs back pin rise.2)

pub past : (least next : ℕ) (front back : List Pin) (pin : Pin) → PinsRise least next (front ++ pin ∷ back)
    → least ≤ pin.number
past least next [] back pin rise = rise.0
past least next (q ∷ qs) back pin rise = search (rules, past (q.number + 1) next qs back pin rise.2)

-- none has a number, and one more has another
pub lacks_more : (n : ℕ) (ps : List Pin) (p : Pin) → LacksPin n ps → p.number ≢ n → LacksPin n (ps ++ p ∷ [])
lacks_more n ps p all differs = all_append (λ (x : Pin). x.number ≢ n) ps (p ∷ []) all (differs, tt)

-- ---- what they mean

module _ (src : Sources) where
  none_below : (least next n : ℕ) (ps : List Pin) → PinsRise least next ps → n < least → pin_at src ps n ≡ None
  none_below least next n [] rise less = refl
  none_below least next n (p ∷ ps) rise less =
      search (rules, ne_eqb, none_below (p.number + 1) next n ps rise.2 (omega (arith, rise.0, less)))

  pub lacks_none : (n : ℕ) (ps : List Pin) → LacksPin n ps → pin_at src ps n ≡ None
  lacks_none n [] all = refl
  lacks_none n (p ∷ ps) all = rw (ne_eqb n p.number (λ e. all.0 (sym e))) (lacks_none n ps all.1)

  pub with_one : (least next : ℕ) (ps : List Pin) (point : List Track) (n : ℕ) → PinsRise least next ps
      → pin_at src (ps ++ record { number = next; point = point } ∷ []) n
      ≡ with_pin next (meant src point) (pin_at src ps) n
  with_one least next [] point n rise = refl
  with_one least next (q ∷ qs) point n rise =
      search (rules, ne_eqb, eqb_tells, with_one (q.number + 1) next qs point n rise.2)

  pub without_one : (least next : ℕ) (front back : List Pin) (pin : Pin) (n : ℕ)
      → PinsRise least next (front ++ pin ∷ back)
      → pin_at src (front ++ back) n ≡ without_pin pin.number (pin_at src (front ++ pin ∷ back)) n
  without_one least next [] back pin n rise = search (rules, none_below, eqb_tells)
  without_one least next (q ∷ qs) back pin n rise =
      search (rules, past, ne_eqb, eqb_tells, without_one (q.number + 1) next qs back pin n rise.2)

  -- the pin that is asked for is the one of its number
  pub found_at : (least next : ℕ) (front back : List Pin) (pin : Pin) → PinsRise least next (front ++ pin ∷ back)
      → pin_at src (front ++ pin ∷ back) pin.number ≡ Some (meant src pin.point)
  found_at least next [] back pin rise = rw (eq-eqb pin.number pin.number refl) refl
  found_at least next (q ∷ qs) back pin rise =
      search (rules, past, ne_eqb, found_at (q.number + 1) next qs back pin rise.2)

-- ---- their blocks

pub blocks_more : (ps : List Pin) (p : Pin) → pin_blocks (ps ++ p ∷ []) ≡ pin_blocks ps ++ point_blocks p.point
blocks_more ps p = search (rules, flat_map-append, append-nil)

pub blocks_around : (front back : List Pin) → pin_blocks (front ++ back) ≡ pin_blocks front ++ pin_blocks back
blocks_around front back = flat_map-append (λ (x : Pin). point_blocks x.point) front back

-- on each of all but one, and on that one
pub all_but : (P : Pin → Type 0) (front back : List Pin) (pin : Pin) → AllByRecursion P (front ++ pin ∷ back)
    → AllByRecursion P (front ++ back)
all_but P front back pin all = search (rules, all_append, all_left, all_right)

pub that_one : (P : Pin → Type 0) (front back : List Pin) (pin : Pin) → AllByRecursion P (front ++ pin ∷ back) → P pin
that_one P front back pin all = (all_right P front (pin ∷ back) all).0

-- the same of their blocks
pub blocks_but : (P : BlockRef → Type 0) (front back : List Pin) (pin : Pin)
    → AllByRecursion P (pin_blocks (front ++ pin ∷ back)) → AllByRecursion P (pin_blocks (front ++ back))
blocks_but P front back pin all = search (rules, blocks_around, all_right, all_append, all_left)

pub blocks_of_one : (P : BlockRef → Type 0) (front back : List Pin) (pin : Pin)
    → AllByRecursion P (pin_blocks (front ++ pin ∷ back)) → AllByRecursion P (point_blocks pin.point)
blocks_of_one P front back pin all = search (rules, blocks_around, all_left, all_right)
