-- The room of a strip, clip by clip, is at most that of its items.
use Rattle.clip_track.proofs.Common.{◌≡◌, ℕ, zero, suc, ◌+◌, ◌<◌, ◌≤◌, inl, inr, true, false, List, [], ◌∷◌, ◌++◌}
use Rattle.clip_track.proofs.Common.{length, refl, ap, arith, if◌then◌else◌, cases_Bool, Piece, is_whole, Stand, First}
use Rattle.clip_track.proofs.Common.{Behind, Within, is_full-true, Gap, Sound, is_first, strip_room, Item, gap_next}
use Rattle.block_sequence.specs.Fuse.{is_full}
use Rattle.block_sequence.specs.Room.{room, clip_room}
use Rattle.block_sequence.proofs.{Room.clip_room_le}
use Rattle.clip_track.specs.Room.{room_from}

-- how a piece stands after some others
abbrev stand_after : ℕ → Stand → List Piece → Stand
stand_after m s [] = s
stand_after m s (p ∷ ps) = stand_after m (if is_full m p then Behind else Within) ps

room-push : (m : ℕ) (s : Stand) (ps : List Piece) (p : Piece)
    → room m s (ps ++ p ∷ []) ≡ room m s ps + room m (stand_after m s ps) (p ∷ [])
room-push m s [] p = omega arith
room-push m s (q ∷ ps) p = elim (cases_Bool (is_full m q)) [
  | inl e ↦ rw e (omega (arith, room-push m Behind ps p))
  | inr e ↦ rw e (omega (arith, room-push m Within ps p))
]

stand-push : (m : ℕ) (s : Stand) (ps : List Piece) (p : Piece)
    → stand_after m s (ps ++ p ∷ []) ≡ (if is_full m p then Behind else Within)
stand-push m s [] p = refl
stand-push m s (q ∷ ps) p = stand-push m (if is_full m q then Behind else Within) ps p

-- a piece that does not begin its clip
next_piece : (m : ℕ) (s : Stand) (p : Piece) (xs : List Item) → is_first s ≡ false
    → strip_room m s true (Sound p ∷ xs)
    ≡ room m s (p ∷ []) + strip_room m (if is_full m p then Behind else Within) true xs
next_piece m First p xs h = cc
next_piece m Behind p xs h =
    elim (cases_Bool (is_full m p)) [ inl e ↦ rw e (omega arith) | inr e ↦ rw e (omega arith) ]
next_piece m Within p xs h =
    elim (cases_Bool (is_full m p)) [ inl e ↦ rw e (omega arith) | inr e ↦ rw e (omega arith) ]

goes_on : (m : ℕ) (p : Piece) → is_first (if is_full m p then Behind else Within) ≡ false
goes_on m p = elim (cases_Bool (is_full m p)) [ inl e ↦ rw e refl | inr e ↦ rw e refl ]

from_held : (m : ℕ) (s : Stand) (held : List Piece) (xs : List Item) → stand_after m First held ≡ s → is_first s ≡ false
    → ((ys : List Item) → length ys < length xs → room_from m [] ys ≤ strip_room m First true ys)
    → room_from m held xs ≤ room m First held + strip_room m s true xs
from_held m s held [] e h f = omega (arith, clip_room_le m held)
from_held m s held (Gap n ∷ xs) e h f = omega (arith, clip_room_le m held, f xs (omega arith))
from_held m s held (Sound p ∷ xs) e h f =
    let t = if is_full m p then Behind else Within in
    let k = ap (λ (i : Stand). room m i (p ∷ [])) e in
    omega (
      arith,
      from_held m t (held ++ p ∷ []) xs (stand-push m First held p) (goes_on m p) (λ ys j. f ys (omega arith)),
      room-push m First held p,
      k,
      next_piece m s p xs h,
    )

-- a clip of one piece
alone : (m : ℕ) (p : Piece) (xs : List Item) → gap_next true xs ≡ true
    → strip_room m Behind true xs ≡ strip_room m Within true xs
    → clip_room m (p ∷ []) + strip_room m Within true xs ≤ strip_room m First true (Sound p ∷ xs)
alone m p xs g e = elim (cases_Bool (is_full m p)) [
  | inl s ↦ rw ((is_full-true m p s).0, s) (omega arith)
  | inr s ↦ elim (cases_Bool (is_whole p)) [
    | inl w ↦ rw (s, g, w) (omega arith)
    | inr w ↦ rw (s, g, w) (omega arith)
  ]
]

from_none : (m n : ℕ) (xs : List Item) → length xs ≤ n → room_from m [] xs ≤ strip_room m First true xs
from_none m n [] h = omega arith
from_none m zero (x ∷ xs) h = absurd (omega arith)
from_none m (suc n) (Gap k ∷ xs) h = omega (arith, from_none m n xs (omega arith))
from_none m (suc n) (Sound p ∷ []) h = omega (arith, alone m p [] refl refl)
from_none m (suc n) (Sound p ∷ Gap k ∷ xs) h =
    omega (arith, alone m p (Gap k ∷ xs) refl refl, from_none m n xs (omega arith))
from_none m (suc n) (Sound p ∷ Sound q ∷ xs) h =
    omega (
      arith,
      from_held m (if is_full m p then Behind else Within) (p ∷ []) (Sound q ∷ xs) refl (goes_on m p)
          (λ ys k. from_none m n ys (omega arith)),
      followed m p q xs,
    )
  where
    followed : (m : ℕ) (p q : Piece) (xs : List Item)
        → strip_room m First true (Sound p ∷ Sound q ∷ xs)
        ≡ room m First (p ∷ []) + strip_room m (if is_full m p then Behind else Within) true (Sound q ∷ xs)
    followed m p q xs = elim (cases_Bool (is_full m p)) [ inl e ↦ rw e (omega arith) | inr e ↦ rw e (omega arith) ]

pub room_from_le : (m : ℕ) (xs : List Item) → room_from m [] xs ≤ strip_room m First true xs
room_from_le m xs = from_none m (length xs) xs (omega arith)
