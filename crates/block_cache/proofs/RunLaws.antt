-- Frames as bytes are taken and joined.
use Rattle.block_cache.proofs.Common.{◌≡◌, ◌<◌, ◌≤◌, ◌+◌, ◌*◌, ◌-◌, ◌∷◌, [], ℕ, ℤ, List, length, min, take, drop}
use Rattle.block_cache.proofs.Common.{length-drop, refl, sym, ap, ◌∙◌, subst, arith, Summary, Level, Short, Long}
use Rattle.block_cache.proofs.Common.{frame_count, frame_len}
use Rattle.std.proofs.Common.{zero, suc, ◌^◌, map}
use Rattle.std.proofs.lemmas.List.{get_or-drop, get_or-take, length-take, same_lists}
use Rattle.std.proofs.lemmas.List.FromFn.{get_or-map-range_with_len, length-map-range_with_len, map-range_with_len_more}
use Rattle.std.proofs.{Math.Nat.mul-suc, lemmas.List.Sums.fold-append, lemmas.Bool.ne_eqb}
use Rattle.std.specs.{Int.int_min, Int.int_max, List.range_with_len, Prelude.fold}
use Rattle.peak_summary.specs.Peaks.{joined}
use Rattle.sample_block.specs.Faults.{frame_in}
use Rattle.block_store.specs.Reads.{frame_samples}
use Rattle.block_cache.specs.Pages.{run_frame, run_frames}

-- the join of what has samples and n frames of as many samples each
abbrev pub so_far : (before : Summary) (each : ℕ) (low high : ℤ) (squares n : ℕ) → Summary
so_far before each low high squares n =
    record { min = low; max = high; squares = squares; count = min (before.count + each * n) (2 ^ 64 - 1) }

pub both_have : (a b : Summary) → 0 < a.count → 0 < b.count → joined a b ≡ record {
  min = int_min a.min b.min;
  max = int_max a.max b.max;
  squares = min (a.squares + b.squares) (2 ^ 64 - 1);
  count = min (a.count + b.count) (2 ^ 64 - 1);
}
both_have a b some more = rw (ne_eqb a.count 0 (omega arith), ne_eqb b.count 0 (omega arith)) refl

-- what is joined has samples if the second has
pub joined_has : (a b : Summary) → 0 < b.count → 0 < (joined a b).count
joined_has a b some = grind arith

pub summary_is : (s : Summary) (a b : ℤ) (c d : ℕ) → s.min ≡ a → s.max ≡ b → s.squares ≡ c → s.count ≡ d
    → s ≡ record { min = a; max = b; squares = c; count = d }
summary_is s a b c d ea eb ec ed = rw (← ea, ← eb, ← ec, ← ed) refl

-- a frame more is joined
alike_step : (before : Summary) (each : ℕ) (low high : ℤ) (squares n : ℕ) (frame : Summary) (low_on high_on : ℤ)
    (squares_on : ℕ) → 0 < before.count → 0 < each → frame.count ≡ each → low_on ≡ int_min low frame.min
    → high_on ≡ int_max high frame.max → squares_on ≡ min (squares + frame.squares) (2 ^ 64 - 1)
    → so_far before each low_on high_on squares_on (n + 1) ≡ joined (so_far before each low high squares n) frame
alike_step before each low high squares n frame low_on high_on squares_on some samples count lowest highest sum =
    let had : 0 < min (before.count + each * n) (2 ^ 64 - 1) = omega arith in
    let next : n + 1 ≡ suc n = omega arith in
    let more : each * (n + 1) ≡ each * n + each = ap (λ (k : ℕ). each * k) next ∙ mul-suc each n in
    let counted : min (before.count + each * (n + 1)) (2 ^ 64 - 1)
    ≡ min (min (before.count + each * n) (2 ^ 64 - 1) + frame.count) (2 ^ 64 - 1) = omega (arith, more, count) in
    rw (
      both_have (so_far before each low high squares n) frame had (omega (arith, count, samples)),
      lowest,
      highest,
      sum,
      counted,
    ) refl

-- and so the frames up to it are
pub alike_on : (bytes : List ℕ) (before : Summary) (each start i : ℕ) (low high : ℤ) (squares : ℕ) (frame : Summary)
    (low_on high_on : ℤ) (squares_on : ℕ) → start ≤ i → 0 < before.count → 0 < each
    → frame ≡ frame_in bytes (12 * i) each → low_on ≡ int_min low frame.min → high_on ≡ int_max high frame.max
    → squares_on ≡ min (squares + frame.squares) (2 ^ 64 - 1)
    → so_far before each low high squares (i - start)
    ≡ fold joined before (map (λ k. frame_in bytes (12 * k) each) (range_with_len start (i - start)))
    → so_far before each low_on high_on squares_on (i + 1 - start)
    ≡ fold joined before (map (λ k. frame_in bytes (12 * k) each) (range_with_len start (i + 1 - start)))
alike_on bytes before each start i low high squares frame low_on high_on squares_on order some samples is lowest highest
    sum was =
    let g : ℕ → Summary = λ k. frame_in bytes (12 * k) each in
    let n : ℕ = i - start in
    let more : n + 1 ≡ i + 1 - start = omega arith in
    subst (λ (k : ℕ). so_far before each low_on high_on squares_on k
    ≡ fold joined before (map g (range_with_len start k))) more
    (alike_step before each low high squares n frame low_on high_on squares_on some samples
    (ap (λ (s : Summary). s.count) is) lowest highest sum
    ∙ ap (λ (s : Summary). joined s frame) was ∙ ap (joined (fold joined before (map g (range_with_len start n)))) is
    ∙ sym (fold-append joined before (map g (range_with_len start n)) (g i ∷ []))
    ∙ ap (fold joined before) (sym (map-range_with_len_more g start n i (omega arith))))

-- part of a list that is made by numbers
pub made_cut : (f : ℕ → Summary) (m skip n : ℕ) → skip + n ≤ m
    → take n (drop skip (map f (range_with_len 0 m))) ≡ map f (range_with_len skip n)
made_cut f m skip n le =
    let size = length-take n (drop skip (map f (range_with_len 0 m))) in
    let rest = length-drop skip (map f (range_with_len 0 m)) in
    let all = length-map-range_with_len f 0 m in
    let mine = length-map-range_with_len f skip n in
    same_lists (take n (drop skip (map f (range_with_len 0 m)))) (map f (range_with_len skip n))
    (omega (arith, size, rest, all, mine)) (λ k d lt.
    get_or-take n (drop skip (map f (range_with_len 0 m))) k d (omega arith)
    ∙ get_or-drop skip (map f (range_with_len 0 m)) k d
    ∙ get_or-map-range_with_len f 0 m (skip + k) (skip + k) d (omega arith) (omega arith)
    ∙ sym (get_or-map-range_with_len f skip n k (skip + k) d (omega arith) refl))

-- lists that are made from equal items are equal
made_same : (f g : ℕ → Summary) (a n : ℕ) → ((k : ℕ) → a ≤ k → k < a + n → f k ≡ g k)
    → map f (range_with_len a n) ≡ map g (range_with_len a n)
made_same f g a zero same = refl
made_same f g a (suc n) same =
    ap (λ (s : Summary). s ∷ map f (range_with_len (a + 1) n)) (same a (omega arith) (omega arith))
    ∙ ap (λ (ss : List Summary). g a ∷ ss)
    (made_same f g (a + 1) n (λ k low high. same k (omega arith) (omega arith)))

-- the first, those between and the last
pub joined_parts : (f g : ℕ → Summary) (before front all end : Summary) (skip n last : ℕ) → last ≡ skip + 1 + n
    → ((k : ℕ) → skip + 1 ≤ k → k < skip + 1 + n → f k ≡ g k) → front ≡ joined before (f skip)
    → all ≡ fold joined front (map g (range_with_len (skip + 1) n)) → end ≡ joined all (f last)
    → end ≡ fold joined before (map f (range_with_len skip (suc (n + 1))))
joined_parts f g before front all end skip n last place same first middle is =
    is
    ∙ ap (λ (s : Summary). joined s (f last)) (middle
    ∙ ap (λ (s : Summary). fold joined s (map g (range_with_len (skip + 1) n))) first
    ∙ ap (fold joined (joined before (f skip))) (sym (made_same f g (skip + 1) n same)))
    ∙ sym (fold-append joined (joined before (f skip)) (map f (range_with_len (skip + 1) n)) (f last ∷ []))
    ∙ ap (fold joined (joined before (f skip))) (sym (map-range_with_len_more f (skip + 1) n last (sym place)))

-- all frames of a block but the last have as many samples each
pub whole_frame : (level : Level) (len i : ℕ) → i + 1 < frame_count (frame_len level) len
    → frame_samples level len i ≡ frame_len level
whole_frame Short len i lt = omega (arith, lt)
whole_frame Long len i lt = omega (arith, lt)

-- and each has some
pub frame_has : (level : Level) (len i : ℕ) → i < frame_count (frame_len level) len
    → 0 < frame_samples level len i
frame_has Short len i lt = omega (arith, lt)
frame_has Long len i lt = omega (arith, lt)

pub frame_short : (level : Level) (len i : ℕ) → frame_samples level len i ≤ 65536
frame_short Short len i = omega arith
frame_short Long len i = omega arith

pub length_run : (bytes : List ℕ) (level : Level) (len from n : ℕ) → length (run_frames bytes level len from n) ≡ n
length_run bytes level len from n = length-map-range_with_len (run_frame bytes level len from) 0 n
