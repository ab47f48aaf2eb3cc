-- The new blocks of a clip have no more room than its pieces give them.
use Rattle.std.proofs.Common.{◌≡◌, ℕ, ◌+◌, ◌*◌, ◌<◌, ◌≤◌, inl, inr, List, [], ◌∷◌, ◌++◌, map, filter, arith}
use Rattle.std.proofs.{lemmas.Bool.cases_Bool, lemmas.Bool.ltb-false, lemmas.Grind.div_ceil_times, Math.Nat.mul_comm}
use Rattle.std.proofs.{Math.Nat.mul-zero}
use Rattle.std.specs.Int.{div_ceil}
use Rattle.pcm_base.specs.{declared.piece.Piece.Piece, Pieces.piece_len}
use Rattle.block_sequence.specs.Fuse.{Part, Made, is_whole, is_full, is_short, is_not_empty, block_sizes, front}
use Rattle.block_sequence.specs.Fuse.{made_count}
use Rattle.block_sequence.specs.Laying.{kept_of, run_parts, laid, laid_first, laid_clip, laid_apart, fused}
use Rattle.block_sequence.specs.Room.{Stand, First, Behind, Within, spare, taken, room, clip_room}
use Rattle.block_sequence.proofs.{HalfFull.is_full-true, HalfFull.is_short-true, HalfFull.no_sizes, Sizes.count_sizes}
use Rattle.block_sequence.proofs.{Count.made_count-append, Count.made_count-made, Count.made_count-kept}

-- a run has room for at most m samples more than it has, and for none where it has none
run_room : (m t : ℕ) → 0 < m → m * made_count (run_parts m t) ≤ t + m
unfolding run_parts
run_room m t a =
    let n = div_ceil t m in
    let e : made_count (map Made (block_sizes m t)) ≡ n =
    omega (arith, made_count-made (block_sizes m t), count_sizes m t a) in
    rw e (omega (arith, mul_comm m n, (div_ceil_times t m a).1))

no_run : (m : ℕ) → m * made_count (run_parts m 0) ≡ 0
unfolding run_parts
no_run m = rw no_sizes (mul-zero m)

-- a clip that goes on after a full piece has at least the room of one that begins there
first_behind : (m : ℕ) (ps : List Piece) → room m First ps ≤ room m Behind ps
first_behind m [] = omega arith
first_behind m (p ∷ ps) = elim (cases_Bool (is_full m p)) [ inl e ↦ rw e (omega arith) | inr e ↦ rw e (omega arith) ]

within_behind : (m : ℕ) (ps : List Piece) → 0 < front m ps → room m Within ps + 2 * m ≤ room m Behind ps
within_behind m [] h = absurd (omega arith)
within_behind m (p ∷ ps) h = elim (cases_Bool (is_full m p)) [
  | inl e ↦ absurd (nothing (rw e at h))
  | inr e ↦ rw e (omega arith)
]
  where
    nothing : 0 < 0 → ⊥
    nothing h = omega arith

-- the parts after an open run of t samples, and those where no run is open
abbrev IsRoomy : ℕ → List Piece → Type 0
IsRoomy m ps = ((t : ℕ) (s : Stand) → m * made_count (laid m t ps) ≤ t + m + room m s ps)
    × (m * made_count (laid m 0 ps) ≤ room m First ps)

made_three : (m : ℕ) (xs ys zs : List Part)
    → m * made_count (xs ++ ys ++ zs) ≡ m * made_count xs + m * made_count ys + m * made_count zs
made_three m xs ys zs = rw (made_count-append, made_count-append) (grind arith)

kept_room : (m : ℕ) (p : Piece) → m * made_count (kept_of p) ≡ 0
kept_room m p = rw made_count-kept (mul-zero m)

roomy_laid : (m : ℕ) (ps : List Piece) → 0 < m → IsRoomy m ps
roomy_laid m [] a = (λ t s. omega (arith, run_room m t a), omega (arith, no_run m))
roomy_laid m (p ∷ ps) a =
    let r = roomy_laid m ps a in
    elim (cases_Bool (is_full m p)) [
      | inl e ↦
          let b = is_full-true m p e in
          elim (cases_Bool (is_short m (front m ps))) [
            | inl k ↦
                let g = within_behind m ps (is_short-true m (front m ps) k).0 in
                rw (e, k) (
                  λ t s. omega (arith, r.0 (t + piece_len p) Within, g, b.2),
                  omega (arith, r.0 (0 + piece_len p) Within, g, b.2),
                )
            | inr k ↦
                let f = first_behind m ps in
                rw (e, k) (
                  λ t s. omega (
                    arith,
                    made_three m (run_parts m t) (kept_of p) (laid m 0 ps),
                    kept_room m p,
                    run_room m t a,
                    r.1,
                    f,
                  ),
                  omega (
                    arith,
                    made_three m (run_parts m 0) (kept_of p) (laid m 0 ps),
                    kept_room m p,
                    no_run m,
                    r.1,
                    f,
                  ),
                )
          ]
      | inr e ↦ rw e (
        λ t s. omega (arith, r.0 (t + piece_len p) Within),
        omega (arith, r.0 (0 + piece_len p) Within),
      )
    ]

roomy_first : (m t : ℕ) (ps : List Piece) → 0 < m → m * made_count (laid_first m t ps) ≤ t + m + room m Within ps
roomy_first m t [] a = omega (arith, run_room m t a)
roomy_first m t (p ∷ ps) a = elim (cases_Bool (is_full m p)) [
  | inl e ↦ rw e (omega (arith, (roomy_laid m ps a).0 (t + piece_len p) Behind, is_full-true m p e))
  | inr e ↦ rw e (omega (arith, roomy_first m (t + piece_len p) ps a))
]

-- the same where the run begins the clip
first_within : (m : ℕ) (ps : List Piece) → 0 < front m ps → room m Within ps + m ≤ room m First ps
first_within m [] h = absurd (omega arith)
first_within m (p ∷ ps) h = elim (cases_Bool (is_full m p)) [
  | inl e ↦ absurd (nothing (rw e at h))
  | inr e ↦ rw e (omega arith)
]
  where
    nothing : 0 < 0 → ⊥
    nothing h = omega arith

roomy_clip : (m : ℕ) (ps : List Piece) → 0 < m → m * made_count (laid_clip m ps) ≤ room m First ps
roomy_clip m ps a = elim (cases_Bool (is_short m (front m ps))) [
  | inl k ↦ rw k (omega (arith, roomy_first m 0 ps a, first_within m ps (is_short-true m (front m ps) k).0))
  | inr k ↦ rw k (roomy_laid m ps a).1
]

roomy_apart : (m : ℕ) (ps : List Piece) → 0 < m → m * made_count (laid_apart m ps) ≤ clip_room m ps
roomy_apart m [] a = roomy_clip m [] a
roomy_apart m (p ∷ []) a = elim (cases_Bool (is_whole p)) [
  | inl w ↦ rw w (omega (arith, kept_room m p))
  | inr w ↦ rw w (roomy_clip m (p ∷ []) a)
]
roomy_apart m (p ∷ q ∷ ps) a = roomy_clip m (p ∷ q ∷ ps) a

-- empty pieces need no room
within_spare : (m : ℕ) (s : Stand) (ps : List Piece) → room m s ps ≤ spare m s + room m Within ps
within_spare m s [] = omega arith
within_spare m s (p ∷ ps) = elim (cases_Bool (is_full m p)) [
  | inl e ↦ rw e (omega (arith, at_most m s))
  | inr e ↦ rw e (omega arith)
]
  where
    at_most : (m : ℕ) (s : Stand) → taken m s ≤ spare m s + m
    at_most m First = omega arith
    at_most m Behind = omega arith
    at_most m Within = omega arith

room-filter : (m : ℕ) (s : Stand) (ps : List Piece) → 0 < m → room m s (filter is_not_empty ps) ≤ room m s ps
room-filter m s [] a = omega arith
room-filter m s (p ∷ ps) a = elim (cases_Bool (is_full m p)) [
  | inl e ↦ elim (cases_Bool (is_not_empty p)) [
    | inl n ↦ rw (n, e) (omega (arith, room-filter m Behind ps a))
    | inr n ↦ absurd (omega (arith, ltb-false 0 (piece_len p) n, is_full-true m p e))
  ]
  | inr e ↦ elim (cases_Bool (is_not_empty p)) [
    | inl n ↦ rw (n, e) (omega (arith, room-filter m Within ps a))
    | inr n ↦ rw (n, e) (omega (arith, room-filter m s ps a, within_spare m s ps))
  ]
]

pub clip_room_le : (m : ℕ) (ps : List Piece) → clip_room m ps ≤ room m First ps
clip_room_le m [] = omega arith
clip_room_le m (p ∷ []) = elim (cases_Bool (is_whole p)) [ inl w ↦ rw w (omega arith) | inr w ↦ rw w (omega arith) ]
clip_room_le m (p ∷ q ∷ ps) = omega arith

clip_room-filter : (m : ℕ) (ps : List Piece) → 0 < m → clip_room m (filter is_not_empty ps) ≤ clip_room m ps
clip_room-filter m [] a = omega arith
clip_room-filter m (p ∷ []) a =
    elim (cases_Bool (is_not_empty p)) [ inl n ↦ rw n (omega arith) | inr n ↦ rw n (omega arith) ]
clip_room-filter m (p ∷ q ∷ ps) a =
    omega (arith, clip_room_le m (filter is_not_empty (p ∷ q ∷ ps)), room-filter m First (p ∷ q ∷ ps) a)

pub room_fused : (m : ℕ) (ps : List Piece) → 0 < m → m * made_count (fused m ps) ≤ clip_room m ps
room_fused m ps a = omega (arith, roomy_apart m (filter is_not_empty ps) a, clip_room-filter m ps a)
