-- How many new blocks there are: at most two for each piece that is not full.
use Rattle.std.proofs.Common.{◌≡◌, ℕ, zero, suc, ◌+◌, ◌*◌, ◌<◌, ◌≤◌, inl, inr, List, [], ◌∷◌, ◌++◌, length, map, filter}
use Rattle.std.proofs.Common.{refl, sym, ap, subst, arith, add-zero, zero-add, if◌then◌else◌}
use Rattle.std.proofs.Math.Nat.{mul-le-mul_right, mul-le-mul_left, suc-mul, mul-suc, mul_comm, mul-zero}
use Rattle.std.proofs.{lemmas.Bool.cases_Bool, lemmas.Bool.cases_lt, lemmas.Bool.lt-ltb, lemmas.Grind.div_ceil_times}
use Rattle.std.specs.Int.{div_ceil}
use Rattle.pcm_base.specs.declared.piece.Piece.TheVariants.{Old, Scaled, Zero, Given}
use Rattle.pcm_base.specs.{declared.piece.Piece.Piece, Pieces.piece_len}
use Rattle.block_sequence.specs.Fuse.{Part, Kept, Made, is_whole, is_full, is_short, is_not_empty, block_sizes, front}
use Rattle.block_sequence.specs.Fuse.{made_count, unfull, rough, AllShort}
use Rattle.block_sequence.specs.Laying.{kept_of, run_parts, laid, laid_first, laid_clip, laid_apart, fused}
use Rattle.block_sequence.proofs.{HalfFull.is_full-true, HalfFull.is_short-true, HalfFull.not_full, Sizes.count_sizes}

pub made_count-append : (ps qs : List Part) → made_count (ps ++ qs) ≡ made_count ps + made_count qs
made_count-append [] qs = omega arith
made_count-append (Kept b ∷ ps) qs = made_count-append ps qs
made_count-append (Made n ∷ ps) qs = omega (arith, made_count-append ps qs)

pub made_count-made : (ns : List ℕ) → made_count (map Made ns) ≡ length ns
made_count-made [] = refl
made_count-made (n ∷ ns) = omega (arith, made_count-made ns)

pub made_count-kept : (p : Piece) → made_count (kept_of p) ≡ 0
made_count-kept (Old b from to) = refl
made_count-kept (Scaled b from to gain) = refl
made_count-kept (Zero len) = refl
made_count-kept (Given from to) = refl

few_blocks : (n m t u : ℕ) → n * m < t + m → t ≤ m * u → n ≤ u
few_blocks n m t u a b = elim (cases_lt u n) [
  | inl h ↦
      let e : suc u * m ≤ n * m = mul-le-mul_right m h in
      absurd (omega (arith, e, suc-mul u m, mul_comm m u))
  | inr h ↦ h
]

count_run : (m t u : ℕ) → 0 < m → t ≤ m * u → made_count (run_parts m t) ≤ u
unfolding run_parts
count_run m t u a h =
    omega (
      arith,
      made_count-made (block_sizes m t),
      count_sizes m t a,
      few_blocks (div_ceil t m) m t u (div_ceil_times t m a).1 h,
    )

-- this many samples may stand in a run with u pieces that are not full
unfoldable credit : ℕ → ℕ → ℕ
credit m u = m * (2 * u)

credit-add : (m u k : ℕ) → credit m (u + k) ≡ credit m u + credit m k
unfolding credit
credit-add m u k = grind arith

credit-some : (m u : ℕ) → 0 < u → 2 * m ≤ credit m u
unfolding credit
credit-some m zero h = absurd (omega arith)
credit-some m (suc u) h = let e : m * 2 ≤ m * (2 * suc u) = mul-le-mul_left m (omega arith) in omega (arith, e)

count_credit : (m t u : ℕ) → 0 < m → t ≤ credit m u → made_count (run_parts m t) ≤ 2 * u
unfolding credit
count_credit m t u a h = count_run m t (2 * u) a h

-- the pieces before the first full one
abbrev fronts : ℕ → List Piece → ℕ
fronts m [] = 0
fronts m (p ∷ ps) = if is_full m p then 0 else 1 + fronts m ps

front_credit : (m : ℕ) (ps : List Piece) → AllShort m ps → front m ps ≤ credit m (fronts m ps)
front_credit m [] h = omega arith
front_credit m (p ∷ ps) h = elim (cases_Bool (is_full m p)) [
  | inl s ↦ rw s (omega arith)
  | inr s ↦ rw s
      (omega (arith, credit-add m 1 (fronts m ps), credit-some m 1 (omega arith), front_credit m ps h.1, h.0.1))
]

front_some : (m : ℕ) (ps : List Piece) → 0 < front m ps → 0 < fronts m ps
front_some m [] h = absurd (omega arith)
front_some m (p ∷ ps) h = elim (cases_Bool (is_full m p)) [
  | inl s ↦ absurd (false_front (front m ps) (rw s at h))
  | inr s ↦ rw s (omega arith)
]
  where
    false_front : (n : ℕ) → 0 < 0 → ⊥
    false_front n h = omega arith

count_laid : (m t u : ℕ) (ps : List Piece) → 0 < m → AllShort m ps → t + front m ps ≤ credit m (u + fronts m ps)
    → made_count (laid m t ps) ≤ 2 * (u + unfull m ps)
count_laid m t u [] a s h = omega (arith, count_credit m t u a (rw (add-zero, add-zero) at h))
count_laid m t u (p ∷ ps) a s h = elim (cases_Bool (is_full m p)) [
  | inl e ↦ elim (cases_Bool (is_short m (front m ps))) [
    | inl k ↦
        let g = is_short-true m (front m ps) k in
        let b = is_full-true m p e in
        let h' = rw (e, add-zero, add-zero) at h in
        let step : t + piece_len p + front m ps ≤ credit m (u + fronts m ps) =
        omega (arith, credit-add m u (fronts m ps), credit-some m (fronts m ps) (front_some m ps g.0), h', g.1, b.2) in
        rw (e, k) (omega (arith, count_laid m (t + piece_len p) u ps a s.1 step))
    | inr k ↦
        let h' = rw (e, add-zero, add-zero) at h in
        let rest : 0 + front m ps ≤ credit m (0 + fronts m ps) = rw (zero-add, zero-add) (front_credit m ps s.1) in
        rw (e, k) (omega (
          arith,
          made_count-append (run_parts m t ++ kept_of p) (laid m 0 ps),
          made_count-append (run_parts m t) (kept_of p),
          made_count-kept p,
          count_credit m t u a h',
          count_laid m 0 0 ps a s.1 rest,
        ))
  ]
  | inr e ↦
      let h' = rw e at h in
      let same : u + (1 + fronts m ps) ≡ u + 1 + fronts m ps = omega arith in
      let step : t + piece_len p + front m ps ≤ credit m (u + 1 + fronts m ps) =
      omega (arith, h', ap (credit m) same) in
      rw e (omega (arith, count_laid m (t + piece_len p) (u + 1) ps a s.1 step))
]

some_pieces : (m u t : ℕ) → 0 < t → t ≤ m * u → 0 < u
some_pieces m zero t a b = omega (arith, mul-zero m)
some_pieces m (suc u) t a b = omega arith

count_first : (m t u : ℕ) (ps : List Piece) → 0 < m → AllShort m ps → t ≤ m * u → 0 < t + front m ps
    → 2 * (t + front m ps) < m → made_count (laid_first m t ps) ≤ 2 * (u + unfull m ps)
count_first m t u [] a s h f g = omega (arith, count_run m t u a h)
count_first m t u (p ∷ ps) a s h f g = elim (cases_Bool (is_full m p)) [
  | inl e ↦
      let f' = rw (e, add-zero) at f in
      let g' = rw (e, add-zero) at g in
      let b = is_full-true m p e in
      let step : t + piece_len p + front m ps ≤ credit m (u + fronts m ps) =
      omega (
        arith,
        credit-add m u (fronts m ps),
        credit-some m u (some_pieces m u t f' h),
        front_credit m ps s.1,
        g',
        b.2,
      ) in
      rw e (omega (arith, count_laid m (t + piece_len p) u ps a s.1 step))
  | inr e ↦
      let f' = rw e at f in
      let g' = rw e at g in
      let step : t + piece_len p ≤ m * suc u = omega (arith, mul-suc m u, s.0.1, h) in
      rw e
      (omega (arith, count_first m (t + piece_len p) (suc u) ps a s.1 step (omega (arith, f')) (omega (arith, g'))))
]

count_clip : (m : ℕ) (ps : List Piece) → 0 < m → AllShort m ps → made_count (laid_clip m ps) ≤ 2 * unfull m ps
count_clip m ps a s = elim (cases_Bool (is_short m (front m ps))) [
  | inl k ↦
      let g = is_short-true m (front m ps) k in
      rw k (omega (arith, count_first m 0 0 ps a s (omega arith) (omega (arith, g.0)) (omega (arith, g.1))))
  | inr k ↦
      let rest : 0 + front m ps ≤ credit m (0 + fronts m ps) = rw (zero-add, zero-add) (front_credit m ps s) in
      rw k (omega (arith, count_laid m 0 0 ps a s rest))
]

count_apart : (m : ℕ) (ps : List Piece) → 0 < m → AllShort m ps → made_count (laid_apart m ps) ≤ 2 * rough m ps
count_apart m [] a s = count_clip m [] a s
count_apart m (p ∷ []) a s = elim (cases_Bool (is_whole p)) [
  | inl w ↦ rw w (omega (arith, made_count-kept p))
  | inr w ↦
      let one : unfull m (p ∷ []) ≡ 1 = rw (not_full m p w) refl in
      let c : made_count (laid_clip m (p ∷ [])) ≤ 2 * 1 = omega (arith, count_clip m (p ∷ []) a s, one) in
      rw w c
]
count_apart m (p ∷ q ∷ ps) a s = count_clip m (p ∷ q ∷ ps) a s

no_empty : (m : ℕ) (ps : List Piece) → AllShort m ps → filter is_not_empty ps ≡ ps
no_empty m [] s = refl
no_empty m (p ∷ ps) s = rw (lt-ltb 0 (piece_len p) s.0.0) (ap (λ qs. p ∷ qs) (no_empty m ps s.1))

pub count_fused : (m : ℕ) (ps : List Piece) → 0 < m → AllShort m ps → made_count (fused m ps) ≤ 2 * rough m ps
count_fused m ps a s =
    let P : List Piece → Type 0 = λ qs. made_count (laid_apart m qs) ≤ 2 * rough m ps in
    subst P (sym (no_empty m ps s)) (count_apart m ps a s)
