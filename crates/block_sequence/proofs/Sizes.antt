-- The sizes of a run's blocks.
use Rattle.std.proofs.Common.{◌≡◌, ℕ, zero, suc, ◌+◌, ◌-◌, ◌*◌, ◌/◌, ◌%◌, ◌<◌, ◌≤◌, List, [], ◌∷◌, ◌++◌, length, get_or}
use Rattle.std.proofs.Common.{drop, replicate, map, sym, ap, ap₂, ◌∙◌, arith, length-append}
use Rattle.std.proofs.lemmas.List.{get_or_append_left, get_or-append_right, get_or-replicate, length-replicate}
use Rattle.std.proofs.lemmas.List.{drop_more, drop_all}
use Rattle.std.proofs.lemmas.Grind.{div_ceil_times}
use Rattle.std.proofs.Math.Nat.{div-add-mod, mod-lt, zero-mul, mod-zero}
use Rattle.std.specs.Int.{div_ceil}
use Rattle.block_sequence.specs.Fuse.{block_sizes, Part, Made, added}
use Rattle.block_sequence.proofs.HalfFull.{no_sizes, pos_times}

added-replicate : (n k : ℕ) → added (replicate n k) ≡ n * k
added-replicate zero k = sym (zero-mul k)
added-replicate (suc n) k = omega (arith, added-replicate n k)

added-append : (xs ys : List ℕ) → added (xs ++ ys) ≡ added xs + added ys
added-append [] ys = omega arith
added-append (x ∷ xs) ys = omega (arith, added-append xs ys)

sizes_added : (n q r : ℕ) → r ≤ n → added (replicate r (q + 1) ++ replicate (n - r) q) ≡ n * q + r
sizes_added n q r h =
    let k = n - r in
    let e : n ≡ r + k = omega arith in
    added-append (replicate r (q + 1)) (replicate k q)
    ∙ ap₂ ◌+◌ (added-replicate r (q + 1)) (added-replicate k q)
    ∙ parts_of r k q
    ∙ ap (λ i. i * q + r) (sym e)
  where
    parts_of : (r k q : ℕ) → r * (q + 1) + k * q ≡ (r + k) * q + r
    parts_of r k q = grind arith

pub added_sizes : (m t : ℕ) → 0 < m → added (block_sizes m t) ≡ t
unfolding block_sizes
added_sizes m zero a = ap added (no_sizes m)
added_sizes m (suc t) a =
    let n = div_ceil (suc t) m in
    let pos : 0 < n = pos_times n m (suc t) (omega arith) (div_ceil_times (suc t) m a).0 in
    sizes_added n (suc t / n) (suc t % n) (omega (arith, mod-lt (suc t) pos)) ∙ div-add-mod (suc t) n

pub added_next : (ns : List ℕ) (k : ℕ) → k < length ns → added (drop k ns) ≡ get_or ns k 0 + added (drop (k + 1) ns)
added_next ns k h = ap added (drop_more ns k 0 h)

sizes_at_low : (n q r k : ℕ) → k < r → get_or (replicate r (q + 1) ++ replicate (n - r) q) k 0 ≡ q + 1
sizes_at_low n q r k h =
    get_or_append_left (replicate r (q + 1)) (replicate (n - r) q) 0 k (rw length-replicate h)
    ∙ get_or-replicate r k (q + 1) 0 h

sizes_at_high : (n q r k : ℕ) → r ≤ k → k < n → get_or (replicate r (q + 1) ++ replicate (n - r) q) k 0 ≡ q
sizes_at_high n q r k h l =
    get_or-append_right (replicate r (q + 1)) (replicate (n - r) q) r k 0 (length-replicate r (q + 1)) h
    ∙ get_or-replicate (n - r) (k - r) q 0 (omega arith)

pub count_sizes : (m t : ℕ) → 0 < m → length (block_sizes m t) ≡ div_ceil t m
unfolding block_sizes
count_sizes m t a =
    let n = div_ceil t m in
    let e : t % n ≤ n = within n m t (div_ceil_times t m a).0 in
    length-append (replicate (t % n) (t / n + 1)) (replicate (n - t % n) (t / n))
    ∙ ap₂ ◌+◌ (length-replicate (t % n) (t / n + 1)) (length-replicate (n - t % n) (t / n))
    ∙ add_back n (t % n) e
  where
    within : (n m t : ℕ) → t ≤ n * m → t % n ≤ n
    within zero m t h = omega (arith, zero-mul m, mod-zero t)
    within (suc n) m t h = omega arith

    add_back : (n k : ℕ) → k ≤ n → k + (n - k) ≡ n
    add_back n k h = omega arith

-- block k of a run
pub size_low : (m t k : ℕ) → k < t % div_ceil t m → t / div_ceil t m + 1 ≡ get_or (block_sizes m t) k 0
unfolding block_sizes
size_low m t k h = sym (sizes_at_low (div_ceil t m) (t / div_ceil t m) (t % div_ceil t m) k h)

pub size_high : (m t k : ℕ) → t % div_ceil t m ≤ k → k < div_ceil t m → t / div_ceil t m ≡ get_or (block_sizes m t) k 0
unfolding block_sizes
size_high m t k h l = sym (sizes_at_high (div_ceil t m) (t / div_ceil t m) (t % div_ceil t m) k h l)

abbrev pub made : List ℕ → List Part
made ns = map Made ns

pub made_next : (ns : List ℕ) (k : ℕ) → k < length ns → made (drop k ns) ≡ Made (get_or ns k 0) ∷ made (drop (k + 1) ns)
made_next ns k h = ap made (drop_more ns k 0 h)

pub added_all : (ns : List ℕ) (k : ℕ) → length ns ≤ k → added (drop k ns) ≡ 0
added_all ns k h = ap added (drop_all k ns h)
