-- A whole, a part of it, and the rest.
use Rattle.envelope_view.proofs.Common.{◌≡◌, ℕ, ◌+◌, ◌-◌, ◌^◌, ◌≤◌, ◌<◌, min, ℤ, List, length, take, drop, sym, ap}
use Rattle.envelope_view.proofs.Common.{subst, ◌∙◌, refl, arith, drop-drop, part, Summary, AreSamples, joined}
use Rattle.envelope_view.proofs.Common.{summary_of, length-part}
use Rattle.std.proofs.lemmas.List.{take-take, drop-take}
use Rattle.std.proofs.{lemmas.Int.ints, lemmas.Int.clamps, lemmas.Bool.ne_eqb}
use Rattle.std.specs.Int.{int_min, int_max}
use Rattle.peak_summary.proofs.Joins.{squares_le}
use Rattle.envelope_view.specs.Halves.{IsRest}
use Rattle.envelope_view.proofs.SumLaws.{fits_part, part_joined}

-- in whichever order two summaries of samples are joined
swapped : (s t : Summary) → 0 < s.count → 0 < t.count → joined s t ≡ joined t s
swapped s t s_some t_some =
    let low : int_min s.min t.min ≡ int_min t.min s.min = omega (arith, ints, clamps) in
    let high : int_max s.max t.max ≡ int_max t.max s.max = omega (arith, ints, clamps) in
    let squares : min (s.squares + t.squares) (2 ^ 64 - 1) ≡ min (t.squares + s.squares) (2 ^ 64 - 1) = omega arith in
    let count : min (s.count + t.count) (2 ^ 64 - 1) ≡ min (t.count + s.count) (2 ^ 64 - 1) = omega arith in
    rw (
      ne_eqb s.count 0 (omega (arith, s_some)),
      ne_eqb t.count 0 (omega (arith, t_some)),
      low,
      high,
      squares,
      count,
    ) refl

-- of two parts with samples that follow one another each is the rest beside the other
two_parts : (a b c : ℕ) (xs : List ℤ) (w : Summary) → AreSamples xs → length xs ≤ 2 ^ 32 → a < b → b < c → c ≤ length xs
    → w ≡ summary_of (part a c xs)
    → IsRest w (summary_of (part a b xs)) (summary_of (part b c xs))
two_parts a b c xs w fit few low high within is =
    let front : length (part a b xs) ≡ b - a = omega (arith, length-part a b xs, low, high, within) in
    let back : length (part b c xs) ≡ c - b = omega (arith, length-part b c xs, low, high, within) in
    let front_squares = squares_le (part a b xs) (fits_part a b xs fit) in
    let back_squares = squares_le (part b c xs) (fits_part b c xs fit) in
    record {
      is = is ∙ sym (part_joined a b c xs (summary_of (part a b xs)) (summary_of (part b c xs)) fit few
          (omega (arith, low)) (omega (arith, high)) refl refl);
      side_some = omega (arith, front, low);
      rest_some = omega (arith, back, high);
      squares = omega (arith, front_squares, back_squares, front, back, low, high, within, few);
      count = omega (arith, front, back, low, high, within, few);
    }

pub rest_after : (a b c : ℕ) (xs : List ℤ) (w s : Summary) → AreSamples xs → length xs ≤ 2 ^ 32 → a < b → b < c
    → c ≤ length xs → w ≡ summary_of (part a c xs)
    → s ≡ summary_of (part a b xs) → IsRest w s (summary_of (part b c xs))
rest_after a b c xs w s fit few low high within whole side =
    subst (λ (z : Summary). IsRest w z (summary_of (part b c xs))) (sym side)
    (two_parts a b c xs w fit few low high within whole)

pub rest_before : (a b c : ℕ) (xs : List ℤ) (w s : Summary) → AreSamples xs → length xs ≤ 2 ^ 32 → a < b → b < c
    → c ≤ length xs → w ≡ summary_of (part a c xs)
    → s ≡ summary_of (part b c xs) → IsRest w s (summary_of (part a b xs))
rest_before a b c xs w s fit few low high within whole side =
    let two = two_parts a b c xs w fit few low high within whole in
    let front : Summary = summary_of (part a b xs) in
    let back : Summary = summary_of (part b c xs) in
    let other : IsRest w back front = record {
      is = two.is ∙ swapped front back two.side_some two.rest_some;
      side_some = two.rest_some;
      rest_some = two.side_some;
      squares = omega (arith, two.squares);
      count = omega (arith, two.count);
    } in
    subst (λ (z : Summary). IsRest w z front) (sym side) other

-- of samples that were read, those before an edge and those from it on
pub front_part : (a b c : ℕ) (xs out : List ℤ) → a ≤ b → b ≤ c → out ≡ take (c - a) (drop a xs)
    → take (b - a) out ≡ part a b xs
front_part a b c xs out low high is =
    ap (take (b - a)) is ∙ take-take (b - a) (c - a) (drop a xs) (omega (arith, low, high))

pub back_part : (a b c : ℕ) (xs out : List ℤ) → a ≤ b → b ≤ c → out ≡ take (c - a) (drop a xs)
    → drop (b - a) out ≡ part b c xs
back_part a b c xs out low high is =
    let size : c - a ≡ (b - a) + (c - b) = omega (arith, low, high) in
    let here : a + (b - a) ≡ b = omega (arith, low) in
    ap (drop (b - a)) (is ∙ ap (λ (k : ℕ). take k (drop a xs)) size)
    ∙ drop-take (b - a) (c - b) (drop a xs)
    ∙ ap (take (c - b)) (drop-drop (b - a) a xs ∙ ap (λ (k : ℕ). drop k xs) here)
