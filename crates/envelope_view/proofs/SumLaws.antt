-- Summaries of parts of a block.
use Rattle.envelope_view.proofs.Common.{◌≡◌, ℕ, zero, suc, ◌+◌, ◌-◌, ◌*◌, ◌^◌, ◌≤◌, ◌<◌, min, ℤ, List, [], ◌∷◌, length}
use Rattle.envelope_view.proofs.Common.{take, drop, map, Some, refl, sym, ap, ap₂, ◌∙◌, arith, length-drop, All-take}
use Rattle.envelope_view.proofs.Common.{All-drop, cases_lt, fold, FitsSigned, w16, Files, blocks, blocks_have, part}
use Rattle.envelope_view.proofs.Common.{Summary, summary_of, joined, nothing, frames_of, frame_count, AreSamples}
use Rattle.envelope_view.proofs.Common.{joined_two, length-part}
use Rattle.std.proofs.Common.{⊎_elim}
use Rattle.std.proofs.{lemmas.List.take_min}
use Rattle.std.specs.{List.range_with_len}
use Rattle.peak_summary.specs.Peaks.{frame_of}
use Rattle.block_store.proofs.StretchLaws.{part-join}

pub fits_part : (from to : ℕ) (xs : List ℤ) → AreSamples xs → AreSamples (part from to xs)
fits_part from to xs fit =
    All-take (λ s. FitsSigned w16 s) (to - from) (drop from xs) (All-drop (λ s. FitsSigned w16 s) from xs fit)

-- the summaries of two parts, one after the other
pub part_joined : (a b c : ℕ) (xs : List ℤ) (s t : Summary) → AreSamples xs → length xs ≤ 2 ^ 32 → a ≤ b → b ≤ c
    → s ≡ summary_of (part a b xs) → t ≡ summary_of (part b c xs) → joined s t ≡ summary_of (part a c xs)
part_joined a b c xs s t fit few low high es et =
    let short : length (part a b xs) + length (part b c xs) ≤ 2 ^ 32 =
    omega (arith, length-part a b xs, length-part b c xs) in
    ap₂ joined es et ∙ joined_two (part a b xs) (part b c xs) (fits_part a b xs fit) (fits_part b c xs fit) short
    ∙ ap summary_of (part-join a b c xs low high)

-- the samples of a block of the disk
pub block_samples_fit : (files : Files) (id : ℕ) (xs : List ℤ) → blocks files id ≡ Some xs → AreSamples xs
block_samples_fit files id xs e = (blocks_have files id xs e).spelled.0

pub block_samples_few : (files : Files) (id : ℕ) (xs : List ℤ) → blocks files id ≡ Some xs → length xs ≤ 2 ^ 32
block_samples_few files id xs e = omega (arith, (blocks_have files id xs e).block.few)

-- a part that ends past the last sample
pub part_end : (from a b : ℕ) (xs : List ℤ) → min a (length xs) ≡ min b (length xs) → part from a xs ≡ part from b xs
part_end from a b xs same =
    let e : min (a - from) (length (drop from xs)) ≡ min (b - from) (length (drop from xs)) =
    omega (arith, same, length-drop from xs) in
    sym (take_min (a - from) (drop from xs)) ∙ ap (λ (n : ℕ). take n (drop from xs)) e
    ∙ take_min (b - from) (drop from xs)

-- k frames of n samples from number i on, joined to what is before them
frames_run : (n i k start : ℕ) (xs : List ℤ) (s : Summary) → AreSamples xs → length xs ≤ 2 ^ 32 → start ≤ n * i
    → s ≡ summary_of (part start (n * i) xs)
    → fold joined s (map (frame_of n xs) (range_with_len i k)) ≡ summary_of (part start (n * (i + k)) xs)
frames_run n i zero start xs s fit few low is =
    let e : i ≡ i + 0 = omega arith in
    is ∙ ap (λ (j : ℕ). summary_of (part start (n * j) xs)) e
frames_run n i (suc k) start xs s fit few low is =
    let next : n * (i + 1) ≡ n * i + n = omega arith in
    let up : n * i ≤ n * (i + 1) = omega arith in
    let size : n ≡ n * (i + 1) - n * i = omega (arith, next) in
    let frame : frame_of n xs i ≡ summary_of (part (n * i) (n * (i + 1)) xs) =
    ap (λ (m : ℕ). summary_of (take m (drop (n * i) xs))) size in
    let one : joined s (frame_of n xs i) ≡ summary_of (part start (n * (i + 1)) xs) =
    part_joined start (n * i) (n * (i + 1)) xs s (frame_of n xs i) fit few low up is frame in
    let e : i + 1 + k ≡ i + suc k = omega arith in
    frames_run n (i + 1) k start xs (joined s (frame_of n xs i)) fit few (omega (arith, low, up)) one
    ∙ ap (λ (j : ℕ). summary_of (part start (n * j) xs)) e

drop_range : (f : ℕ → Summary) (from a count : ℕ)
    → drop a (map f (range_with_len from count)) ≡ map f (range_with_len (from + a) (count - a))
drop_range f from zero count =
    let e : from ≡ from + 0 = omega arith in
    let k : count ≡ count - 0 = omega arith in
    ap₂ (λ (a n : ℕ). map f (range_with_len a n)) e k
drop_range f from (suc a) zero =
    let k : 0 ≡ 0 - suc a = omega arith in
    ap (λ (n : ℕ). map f (range_with_len (from + suc a) n)) k
drop_range f from (suc a) (suc count) =
    let e : from + 1 + a ≡ from + suc a = omega arith in
    let k : count - a ≡ suc count - suc a = omega arith in
    drop_range f (from + 1) a count ∙ ap₂ (λ (b n : ℕ). map f (range_with_len b n)) e k

take_range : (f : ℕ → Summary) (from a count : ℕ) → a ≤ count
    → take a (map f (range_with_len from count)) ≡ map f (range_with_len from a)
take_range f from zero count le = refl
take_range f from (suc a) zero le = absurd (omega arith)
take_range f from (suc a) (suc count) le =
    ap (λ (ss : List Summary). f from ∷ ss) (take_range f (from + 1) a count (omega arith))

-- whole frames joined
frames_joined : (n first k : ℕ) (xs : List ℤ) → AreSamples xs → length xs ≤ 2 ^ 32
    → first + k ≤ frame_count n (length xs)
    → fold joined nothing (take k (drop first (frames_of n xs))) ≡ summary_of (part (n * first) (n * (first + k)) xs)
frames_joined n first k xs fit few le =
    let zero_first : 0 + first ≡ first = omega arith in
    let gone : n * first - n * first ≡ 0 = omega arith in
    let none : part (n * first) (n * first) xs ≡ [] = ap (λ (m : ℕ). take m (drop (n * first) xs)) gone in
    ap (λ (ss : List Summary). fold joined nothing (take k ss))
    (drop_range (frame_of n xs) 0 first (frame_count n (length xs)))
    ∙ ap (fold joined nothing)
    (take_range (frame_of n xs) (0 + first) k (frame_count n (length xs) - first) (omega arith))
    ∙ ap (λ (i : ℕ). fold joined nothing (map (frame_of n xs) (range_with_len i k))) zero_first
    ∙ frames_run n first k (n * first) xs nothing fit few (omega arith) (ap summary_of (sym none))

pub frames_read : (n first end : ℕ) (xs : List ℤ) (s : Summary) → AreSamples xs → length xs ≤ 2 ^ 32 → first ≤ end
    → end ≤ frame_count n (length xs) → s ≡ fold joined nothing (take (end - first) (drop first (frames_of n xs)))
    → s ≡ summary_of (part (n * first) (n * end) xs)
frames_read n first end xs s fit few rising within is =
    let e : first + (end - first) ≡ end = omega arith in
    is ∙ frames_joined n first (end - first) xs fit few (omega (arith, within))
    ∙ ap (λ (j : ℕ). summary_of (part (n * first) (n * j) xs)) e

-- where frames that end a block end
pub stop_same : (end to len from n : ℕ) → from ≡ min to end → (to < end → to ≡ len) → to ≤ len → n ≡ len
    → min end n ≡ min from n
stop_same end to len from n is last within size = ⊎_elim
    (λ lt. let all : to ≡ len = last lt in omega (arith, is, all, size, lt))
    (λ ge. omega (arith, is, ge))
    (cases_lt to end)
