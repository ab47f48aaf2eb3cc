-- The tracks of a run as they are laid out, one after another, and the numbers of their layouts.
use Rattle.editor_tracks.proofs.Common.{◌≡◌, inl, inr, refl, ℕ, ◌+◌, ◌≤◌, Option, Some, None}
use Rattle.editor_tracks.proofs.Common.{List, [], ◌∷◌, ◌++◌, arith, suc, zero, leb_tells, Track, HasNumbers, laid_from}
use Rattle.editor_tracks.proofs.Common.{rules}
use Rattle.std.proofs.Common.{IfSome, slice_get}
use Rattle.layout_uses.specs.{Laws.IsAmong}
use Rattle.layout_uses.proofs.Draws.{numbers_kept, numbers_more}
use Rattle.editor_tracks.specs.RunEdits.{laid_or, next_number}

-- without plans each track stays
pub laid_none : (id number : ℕ) (ts : List Track) → laid_from id [] number ts ≡ ts
laid_none id number [] = refl
laid_none id number (t ∷ ts) = search (rules, leb_tells, laid_none id (number + 1) ts, laid_none id number ts)

pub laid_stays : (id number : ℕ) (t : Track) (ts : List Track)
    → laid_from id [] number (t ∷ ts) ≡ t ∷ laid_from id [] number ts
laid_stays id number t ts = search (rules, laid_none)

-- the track at a place is one of them
pub place_among : (i : ℕ) (ts : List Track) (t : Track) → slice_get ts i ≡ Some t → IsAmong t ts
place_among i [] t at = absurd cc
place_among zero (x ∷ xs) t at = inl cc
place_among (suc i) (x ∷ xs) t at = inr (place_among i xs t at)

pub next_most : (number : ℕ) (laid : Option Track) → next_number number laid ≤ number + 1
next_most number None = omega arith
next_most number (Some t) = omega arith

-- a track more, as it was or with the next number
pub numbers_laid : (current : List Track) (first : ℕ) (point : List Track) (number : ℕ)
    → HasNumbers current first point number → (t : Track) → IsAmong t current → (laid : Option Track)
    → IfSome laid (λ (x : Track). x.number ≡ number)
    → HasNumbers current first (point ++ laid_or t laid ∷ []) (next_number number laid)
numbers_laid current first point number was t among None is = numbers_kept current first point number was t among
numbers_laid current first point number was t among (Some x) is =
    numbers_more current first point number was x (inr is) (number + 1) (omega arith) (λ e. omega arith)
