-- The layout of a clip is half full.
use Rattle.std.proofs.Common.{◌≡◌, ℕ, zero, suc, ◌+◌, ◌-◌, ◌*◌, ◌/◌, ◌%◌, ◌<◌, ◌≤◌, inl, inr, true, false, List, []}
use Rattle.std.proofs.Common.{◌∷◌, ◌++◌, map, replicate, refl, sym, ap, ◌∙◌, arith, add-zero, zero-add, add_assoc, ltb}
use Rattle.std.proofs.Common.{filter}
use Rattle.std.proofs.lemmas.Bool.{cases_lt, cases_Bool, and_parts, false≢true, leb-true, ltb-true, ltb-false}
use Rattle.std.proofs.lemmas.Bool.{and_cases, eqb-true}
use Rattle.std.proofs.Math.Nat.{mul-le-mul_left, mul-suc, div-add-mod, mod-lt, sub-zero, zero-mul, zero-div, zero-mod}
use Rattle.std.proofs.Math.Nat.{div-one, mod-one}
use Rattle.std.proofs.{lemmas.Grind.div_ceil_times, lemmas.List.map-append, lemmas.List.nil_from_length}
use Rattle.std.specs.Int.{div_ceil}
use Rattle.pcm_base.specs.declared.piece.Piece.TheVariants.{Old, Scaled, Zero, Given}
use Rattle.pcm_base.specs.Pieces.{Sources, piece_len, total, samples_of, all_samples, Fits, AllFit, AllValid}
use Rattle.pcm_base.specs.{declared.piece.Piece.Piece, Blocks.AllFull, Blocks.IsHalfFull}
use Rattle.pcm_base.proofs.Pieces.{length-samples}
use Rattle.block_sequence.specs.Fuse.{Part, Made, part_len, is_whole, is_full, block_sizes, front, is_short}
use Rattle.block_sequence.specs.Fuse.{is_not_empty}
use Rattle.block_sequence.specs.Laying.{kept_of, run_parts, laid, laid_first, laid_clip, laid_apart, fused}

pub AllFull-append : (m : ℕ) (a b : List ℕ) → AllFull m a → AllFull m b → AllFull m (a ++ b)
AllFull-append m [] b x y = y
AllFull-append m (n ∷ a) b x y = (x.0, AllFull-append m a b x.1 y)

AllFull-replicate : (m n k : ℕ) → m ≤ 2 * n → n ≤ m → AllFull m (replicate k n)
AllFull-replicate m n zero x y = tt
AllFull-replicate m n (suc k) x y = ((x, y), AllFull-replicate m n k x y)

pub IsHalfFull-from_full : (m : ℕ) (ns : List ℕ) → 0 < m → AllFull m ns → IsHalfFull m ns
IsHalfFull-from_full m [] h x = tt
IsHalfFull-from_full m (n ∷ []) h x = (omega arith, x.0.1)
IsHalfFull-from_full m (n ∷ k ∷ ns) h x = x

-- n blocks of q or q + 1 samples hold t
pub q_high : (n q m r : ℕ) → n * q + r ≤ n * m → r < n → q ≤ m
q_high n q m r h p = elim (cases_lt m q) [
  | inl a ↦ let e : n * suc m ≤ n * q = mul-le-mul_left n a in absurd (omega (arith, e, mul-suc n m))
  | inr b ↦ b
]

pub q_higher : (n q m r : ℕ) → n * q + r ≤ n * m → 0 < r → q + 1 ≤ m
q_higher n q m r h p = elim (cases_lt q m) [
  | inl a ↦ omega arith
  | inr b ↦ let e : n * m ≤ n * q = mul-le-mul_left n b in absurd (omega (arith, e))
]

q_low : (n q m r : ℕ) → r < n → n * m < n * q + r + m → m ≤ 2 * (n * q + r) → m ≤ 2 * q
q_low zero q m r p h k = absurd (omega arith)
q_low (suc zero) q m r p h k = omega arith
q_low (suc (suc j)) q m r p h k = elim (cases_lt (2 * q) m) [
  | inl a ↦
      let e : j * suc (2 * q) ≤ j * m = mul-le-mul_left j a in
      absurd (omega (arith, e, mul-suc j (2 * q)))
  | inr b ↦ b
]

sizes_full : (m n q r : ℕ) → r < n → n * q + r ≤ n * m → n * m < n * q + r + m → m ≤ 2 * (n * q + r)
    → AllFull m (replicate r (q + 1) ++ replicate (n - r) q)
sizes_full m n q zero p h k l =
    rw sub-zero (AllFull-replicate m q n (q_low n q m zero p k l) (q_high n q m zero h p))
sizes_full m n q (suc r) p h k l =
    AllFull-append m (replicate (suc r) (q + 1)) (replicate (n - suc r) q)
    (AllFull-replicate m (q + 1) (suc r) (omega (arith, q_low n q m (suc r) p k l))
    (q_higher n q m (suc r) h (omega arith)))
    (AllFull-replicate m q (n - suc r) (q_low n q m (suc r) p k l) (q_high n q m (suc r) h p))

-- the blocks of a run that is not short are full
pub pos_times : (n m t : ℕ) → 0 < t → t ≤ n * m → 0 < n
pos_times zero m t a b = omega (arith, zero-mul m)
pos_times (suc n) m t a b = omega arith

pub AllFull-sizes : (m t : ℕ) → 0 < m → 0 < t → m ≤ 2 * t → AllFull m (block_sizes m t)
unfolding block_sizes
AllFull-sizes m t a b h =
    let n = div_ceil t m in
    let c = div_ceil_times t m a in
    let pos : 0 < n = pos_times n m t b c.0 in
    let e : n * (t / n) + t % n ≡ t = div-add-mod t n in
    sizes_full m n (t / n) (t % n) (mod-lt t pos) (omega (arith, e, c)) (omega (arith, e, c)) (omega (arith, e))

part_lens-made : (ns : List ℕ) → map part_len (map Made ns) ≡ ns
part_lens-made [] = refl
part_lens-made (n ∷ ns) = ap (λ ks. n ∷ ks) (part_lens-made ns)

pub run_sizes : (m t : ℕ) → map part_len (run_parts m t) ≡ block_sizes m t
unfolding run_parts
run_sizes m t = part_lens-made (block_sizes m t)

-- a run that has no sample, or is not short
pub data IsLong (m t : ℕ) : Type 0 where
  None : t ≡ 0 → IsLong m t
  Long : m ≤ 2 * t → IsLong m t

-- no sample, no block
pub no_sizes : (m : ℕ) → block_sizes m 0 ≡ []
unfolding block_sizes
no_sizes m =
    let e : div_ceil 0 m ≡ 0 = rw (zero-div m, zero-mod m) refl in
    rw e refl

pub AllFull-run : (m t : ℕ) → 0 < m → IsLong m t → AllFull m (map part_len (run_parts m t))
AllFull-run m t a (None e) = rw (run_sizes, e, no_sizes) tt
AllFull-run m zero a (Long h) = rw (run_sizes, no_sizes) tt
AllFull-run m (suc t) a (Long h) = rw run_sizes (AllFull-sizes m (suc t) a (omega arith) h)

pub is_full-true : (m : ℕ) (p : Piece) → is_full m p ≡ true
    → (is_whole p ≡ true) × (m ≤ 2 * piece_len p) × (piece_len p ≤ m)
unfolding is_full
is_full-true m p h =
    let a = and_parts _ _ h in
    let b = and_parts _ _ a.0 in
    (b.0, leb-true _ _ b.1, leb-true _ _ a.1)

pub not_full : (m : ℕ) (p : Piece) → is_whole p ≡ false → is_full m p ≡ false
not_full m p h =
    elim (cases_Bool (is_full m p)) [ inl e ↦ absurd (false≢true (sym h ∙ (is_full-true m p e).0)) | inr e ↦ e ]

pub is_short-false : (m t : ℕ) → is_short m t ≡ false → IsLong m t
unfolding is_short
is_short-false m t h = elim (and_cases (ltb 0 t) (ltb (2 * t) m) h) [
  | inl a ↦ None (omega (arith, ltb-false 0 t a))
  | inr b ↦ Long (ltb-false _ _ b)
]

pub is_short-true : (m t : ℕ) → is_short m t ≡ true → (0 < t) × (2 * t < m)
unfolding is_short
is_short-true m t h = let a = and_parts _ _ h in (ltb-true _ _ a.0, ltb-true _ _ a.1)

-- a full piece is a whole block, with as many samples
pub kept_sizes : (p : Piece) → is_whole p ≡ true → map part_len (kept_of p) ≡ piece_len p ∷ []
kept_sizes (Old b from to) h =
    let a = and_parts _ _ h in
    let x : from ≡ 0 = eqb-true _ _ a.0 in
    let y : to ≡ b.len = eqb-true _ _ a.1 in
    ap (λ n. n ∷ []) (omega arith)
kept_sizes (Scaled b from to gain) h = absurd (false≢true h)
kept_sizes (Zero len) h = absurd (false≢true h)
kept_sizes (Given from to) h = absurd (false≢true h)

pub AllFull-kept : (m : ℕ) (p : Piece) → is_full m p ≡ true → AllFull m (map part_len (kept_of p))
AllFull-kept m p h = let a = is_full-true m p h in rw (kept_sizes p a.0) ((a.1, a.2), tt)

pub AllFull-laid : (m t : ℕ) (ps : List Piece) → 0 < m → IsLong m (t + front m ps)
    → AllFull m (map part_len (laid m t ps))
AllFull-laid m t [] a h = AllFull-run m t a (rw add-zero at h)
AllFull-laid m t (p ∷ ps) a h = elim (cases_Bool (is_full m p)) [
  | inl s ↦ elim (cases_Bool (is_short m (front m ps))) [
    | inl k ↦
        let b = is_full-true m p s in
        rw (s, k) (AllFull-laid m (t + piece_len p) ps a (Long (omega arith)))
    | inr k ↦
        rw (s, k) (rw (map-append, map-append) (
        AllFull-append m _ _ (AllFull-append m _ _ (AllFull-run m t a (rw (s, add-zero) at h)) (AllFull-kept m p s))
        (AllFull-laid m 0 ps a (rw zero-add (is_short-false m _ k)))))
  ]
  | inr s ↦ rw s (AllFull-laid m (t + piece_len p) ps a (rw (s, ← add_assoc) at h))
]

-- what a clip's pieces give: full blocks, or one run that is the whole clip
pub data IsLaid (m t : ℕ) (parts : List Part) : Type 0 where
  Full : AllFull m (map part_len parts) → IsLaid m t parts
  One : parts ≡ run_parts m t → 2 * t < m → IsLaid m t parts

pub IsLaid-first : (m t : ℕ) (ps : List Piece) → 0 < m → IsLaid m (t + total ps) (laid_first m t ps)
IsLaid-first m t [] a = elim (cases_lt (2 * t) m) [
  | inl b ↦ One (rw add-zero refl) (rw add-zero b)
  | inr b ↦ Full (AllFull-run m t a (Long b))
]
IsLaid-first m t (p ∷ ps) a = elim (cases_Bool (is_full m p)) [
  | inl s ↦
      let b = is_full-true m p s in
      Full (rw s (AllFull-laid m (t + piece_len p) ps a (Long (omega arith))))
  | inr s ↦ rw (s, ← add_assoc) (IsLaid-first m (t + piece_len p) ps a)
]

pub IsLaid-clip : (m : ℕ) (ps : List Piece) → 0 < m → IsLaid m (total ps) (laid_clip m ps)
IsLaid-clip m ps a = elim (cases_Bool (is_short m (front m ps))) [
  | inl s ↦ rw s (rw zero-add at (IsLaid-first m 0 ps a))
  | inr s ↦ Full (rw s (AllFull-laid m 0 ps a (rw zero-add (is_short-false m _ s))))
]

-- a run that is shorter than a block is one block
pub one_size : (m t : ℕ) → 0 < t → t ≤ m → block_sizes m t ≡ t ∷ []
unfolding block_sizes
one_size m t a h =
    let c = div_ceil_times t m (omega arith) in
    let e : div_ceil t m ≡ 1 = one_block (div_ceil t m) m t a h c.0 c.1 in
    rw e (rw (div-one, mod-one) refl)
  where
    one_block : (n m t : ℕ) → 0 < t → t ≤ m → t ≤ n * m → n * m < t + m → n ≡ 1
    one_block zero m t a h b c = omega (arith, zero-mul m)
    one_block (suc zero) m t a h b c = refl
    one_block (suc (suc j)) m t a h b c = absurd (omega arith)

pub IsHalfFull-laid : (m t : ℕ) (parts : List Part) → 0 < m → 0 < t → IsLaid m t parts
    → IsHalfFull m (map part_len parts)
IsHalfFull-laid m t parts a b (Full h) = IsHalfFull-from_full m _ a h
IsHalfFull-laid m t parts a b (One e h) = rw (e, run_sizes, one_size m t b (omega arith)) (omega arith, omega arith)

-- without the empty ones
abbrev pub AllNotEmpty : List Piece → Type 0
AllNotEmpty [] = Unit {0}
AllNotEmpty (p ∷ ps) = (0 < piece_len p) × AllNotEmpty ps

pub AllNotEmpty-filter : (ps : List Piece) → AllNotEmpty (filter is_not_empty ps)
AllNotEmpty-filter [] = tt
AllNotEmpty-filter (p ∷ ps) = elim (cases_Bool (is_not_empty p)) [
  | inl e ↦ rw e (ltb-true _ _ e, AllNotEmpty-filter ps)
  | inr e ↦ rw e (AllNotEmpty-filter ps)
]

pub AllFit-filter : (m : ℕ) (ps : List Piece) → AllFit m ps → AllFit m (filter is_not_empty ps)
AllFit-filter m [] h = tt
AllFit-filter m (p ∷ ps) h = elim (cases_Bool (is_not_empty p)) [
  | inl e ↦ rw e (h.0, AllFit-filter m ps h.1)
  | inr e ↦ rw e (AllFit-filter m ps h.1)
]

pub AllValid-filter : (ps : List Piece) → AllValid ps → AllValid (filter is_not_empty ps)
AllValid-filter [] h = tt
AllValid-filter (p ∷ ps) h = elim (cases_Bool (is_not_empty p)) [
  | inl e ↦ rw e (h.0, AllValid-filter ps h.1)
  | inr e ↦ rw e (AllValid-filter ps h.1)
]

pub samples-filter : (src : Sources) (ps : List Piece) → all_samples src (filter is_not_empty ps) ≡ all_samples src ps
samples-filter src [] = refl
samples-filter src (p ∷ ps) = elim (cases_Bool (is_not_empty p)) [
  | inl e ↦ rw e (ap (λ xs. samples_of src p ++ xs) (samples-filter src ps))
  | inr e ↦
      let n : samples_of src p ≡ [] =
      nil_from_length _ (omega (arith, length-samples src p, ltb-false 0 (piece_len p) e)) in
      rw (e, n) (samples-filter src ps)
]

pub total-filter : (ps : List Piece) → total (filter is_not_empty ps) ≡ total ps
total-filter [] = refl
total-filter (p ∷ ps) = elim (cases_Bool (is_not_empty p)) [
  | inl e ↦ rw e (ap (λ n. piece_len p + n) (total-filter ps))
  | inr e ↦ rw e (omega (arith, total-filter ps, ltb-false 0 (piece_len p) e))
]

Fits-whole : (m : ℕ) (p : Piece) → is_whole p ≡ true → Fits m p → piece_len p ≤ m
Fits-whole m (Old b from to) h f =
    let a = and_parts _ _ h in
    let y : to ≡ b.len = eqb-true _ _ a.1 in
    omega arith
Fits-whole m (Scaled b from to gain) h f = absurd (false≢true h)
Fits-whole m (Zero len) h f = absurd (false≢true h)
Fits-whole m (Given from to) h f = absurd (false≢true h)

pub laid_none : (m : ℕ) → laid_clip m [] ≡ []
unfolding run_parts
laid_none m = elim (cases_Bool (is_short m 0)) [ inl e ↦ rw (e, no_sizes) refl | inr e ↦ rw (e, no_sizes) refl ]

IsHalfFull-apart : (m : ℕ) (ps : List Piece) → 0 < m → AllNotEmpty ps → AllFit m ps
    → IsHalfFull m (map part_len (laid_apart m ps))
IsHalfFull-apart m [] a n f = rw laid_none tt
IsHalfFull-apart m (p ∷ []) a n f = elim (cases_Bool (is_whole p)) [
  | inl w ↦ rw (w, kept_sizes p w) (n.0, Fits-whole m p w f.0)
  | inr w ↦ rw w (IsHalfFull-laid m (total (p ∷ [])) _ a (omega (arith, n)) (IsLaid-clip m (p ∷ []) a))
]
IsHalfFull-apart m (p ∷ q ∷ ps) a n f =
    IsHalfFull-laid m (total (p ∷ q ∷ ps)) _ a (omega (arith, n)) (IsLaid-clip m (p ∷ q ∷ ps) a)

pub IsHalfFull-fused : (m : ℕ) (ps : List Piece) → 0 < m → AllFit m ps → IsHalfFull m (map part_len (fused m ps))
IsHalfFull-fused m ps a f = IsHalfFull-apart m (filter is_not_empty ps) a (AllNotEmpty-filter ps) (AllFit-filter m ps f)
