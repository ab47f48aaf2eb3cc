-- Lemmas on where pieces come from.
use Rattle.std.proofs.Common.{◌≡◌, ℕ, zero, suc, ◌+◌, ◌<◌, ◌≤◌, inl, inr, List, [], ◌∷◌, ◌++◌, length, get_or, take}
use Rattle.std.proofs.Common.{drop, filter, subst, arith}
use Rattle.std.proofs.lemmas.Bool.{cases_Bool}
use Rattle.std.specs.Prelude.{Contains}
use Rattle.pcm_base.specs.declared.piece.Piece.TheVariants.{Old, Scaled, Zero, Given}
use Rattle.pcm_base.specs.Pieces.{piece_len, part_of, IsValid, whole}
use Rattle.pcm_base.specs.{declared.block.BlockRef.BlockRef, declared.piece.Piece.Piece}
use Rattle.block_sequence.specs.Origins.{IsFrom, AllFrom, IsLaidFrom, AllLaidFrom}
use Rattle.block_sequence.specs.{Fuse.is_not_empty, declared.types.Laid.Laid}

pub IsFrom-part : (blocks : List BlockRef) (count skip n : ℕ) (p : Piece) → skip + n ≤ piece_len p → IsValid p
    → IsFrom blocks count p → IsFrom blocks count (part_of skip n p)
IsFrom-part blocks count skip n (Old b from to) h v f = f
IsFrom-part blocks count skip n (Scaled b from to gain) h v f = f
IsFrom-part blocks count skip n (Zero len) h v f = tt
IsFrom-part blocks count skip n (Given from to) h v f = omega arith

pub from_at : (blocks : List BlockRef) (count : ℕ) (ps : List Piece) (i : ℕ) (d : Piece) → i < length ps
    → AllFrom blocks count ps → IsFrom blocks count (get_or ps i d)
from_at blocks count [] i d h f = absurd (omega arith)
from_at blocks count (p ∷ ps) zero d h f = f.0
from_at blocks count (p ∷ ps) (suc i) d h f = from_at blocks count ps i d (omega arith) f.1

pub AllFrom-append : (blocks : List BlockRef) (count : ℕ) (ps qs : List Piece) → AllFrom blocks count ps
    → AllFrom blocks count qs → AllFrom blocks count (ps ++ qs)
AllFrom-append blocks count [] qs a b = b
AllFrom-append blocks count (p ∷ ps) qs a b = (a.0, AllFrom-append blocks count ps qs a.1 b)

pub AllFrom-take : (blocks : List BlockRef) (count n : ℕ) (ps : List Piece) → AllFrom blocks count ps
    → AllFrom blocks count (take n ps)
AllFrom-take blocks count zero ps f = tt
AllFrom-take blocks count (suc n) [] f = tt
AllFrom-take blocks count (suc n) (p ∷ ps) f = (f.0, AllFrom-take blocks count n ps f.1)

pub AllFrom-drop : (blocks : List BlockRef) (count n : ℕ) (ps : List Piece) → AllFrom blocks count ps
    → AllFrom blocks count (drop n ps)
AllFrom-drop blocks count zero ps f = f
AllFrom-drop blocks count (suc n) [] f = tt
AllFrom-drop blocks count (suc n) (p ∷ ps) f = AllFrom-drop blocks count n ps f.1

pub AllFrom-filter : (blocks : List BlockRef) (count : ℕ) (ps : List Piece) → AllFrom blocks count ps
    → AllFrom blocks count (filter is_not_empty ps)
AllFrom-filter blocks count [] f = tt
AllFrom-filter blocks count (p ∷ ps) f = elim (cases_Bool (is_not_empty p)) [
  | inl e ↦ rw e (f.0, AllFrom-filter blocks count ps f.1)
  | inr e ↦ rw e (AllFrom-filter blocks count ps f.1)
]

pub AllLaidFrom-push : (blocks : List BlockRef) (count : ℕ) (ls : List Laid) (l : Laid) → AllLaidFrom blocks count ls
    → IsLaidFrom blocks count l → AllLaidFrom blocks count (ls ++ l ∷ [])
AllLaidFrom-push blocks count [] l a b = (b, tt)
AllLaidFrom-push blocks count (k ∷ ls) l a b = (a.0, AllLaidFrom-push blocks count ls l a.1 b)

-- a whole piece's block
pub block_from : (blocks : List BlockRef) (count : ℕ) (p : Piece) (b : BlockRef) → p ≡ whole b → IsFrom blocks count p
    → Contains blocks b
block_from blocks count p b e f = let P : Piece → Type 0 = IsFrom blocks count in subst P e f
