-- Lists that begin and end as another one does.
use Rattle.std.proofs.Common.{◌≡◌, ℕ, ◌-◌, ◌<◌, List, ◌++◌, length, take, drop, ap, ◌∙◌, arith}
use Rattle.std.proofs.Common.{append_assoc}
use Rattle.std.proofs.lemmas.List.{append-nil, drop_all, length-take}
use Rattle.block_ledger.specs.Counts.{Counts}
use Rattle.row_ledger.specs.Rows.{AreThere, from_to, like}
use Rattle.row_ledger.proofs.{FromTo.from_to_all, Sums.times_append}

-- nothing is said to stay
pub like_none : (xs : List ℕ) (front back : ℕ) (middle : List ℕ) → front ≡ 0 → back ≡ 0
    → like xs front back middle ≡ middle
like_none xs front back middle f b =
    ap (λ n. take n xs ++ (middle ++ drop (length xs - back) xs)) f
    ∙ ap (λ zs. middle ++ zs) (drop_all (length xs - back) xs (omega (arith, b)))
    ∙ append-nil middle

-- what stands between is there
pub like_there : (cs : Counts) (xs : List ℕ) (front back : ℕ) (middle : List ℕ)
    → AreThere cs (like xs front back middle) → AreThere cs middle
like_there cs xs front back middle there = λ id some. there id (omega (
  arith,
  some,
  times_append id (take front xs) (middle ++ drop (length xs - back) xs),
  times_append id middle (drop (length xs - back) xs),
))

-- all ids of a list, where they are fewer than that
pub all_of : (n : ℕ) (xs ys : List ℕ) → ys ≡ from_to 0 n xs → length ys < n → ys ≡ xs
all_of n xs ys e few =
    e ∙ from_to_all n xs (omega (arith, ap length e, length-take (n - 0) (drop 0 xs), few))

-- the parts, one after another
pub put_together : (xs first both all middle : List ℕ) (front to back : ℕ) → to ≡ length xs - back
    → first ≡ take front xs → both ≡ first ++ middle → all ≡ both ++ drop to xs → all ≡ like xs front back middle
put_together xs first both all middle front to back at e f g =
    g ∙ ap (λ zs. zs ++ drop to xs) (f ∙ ap (λ zs. zs ++ middle) e)
    ∙ append_assoc (take front xs) middle (drop to xs)
    ∙ ap (λ n. take front xs ++ (middle ++ drop n xs)) at
