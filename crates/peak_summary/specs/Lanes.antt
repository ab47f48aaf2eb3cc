-- What lanes hold, as lists of them.
use Rattle.std.specs.Prelude.{◌≡◌, ℕ, ℤ, ◌+◌, ◌*◌, ◌≤◌, List, sum_by}
use Rattle.std.specs.Simd.Lanes.{Each1, sum_l}
use Rattle.peak_summary.specs.Peaks.{square}

abbrev pub AreAtMost : ℕ → List ℕ → Type 0
AreAtMost n xs = Each1 (λ x. x ≤ n) xs

-- two vectors stand for one sum, of which the second counts several times
abbrev pub held_in : ℕ → List ℕ → List ℕ → ℕ
held_in times low high = sum_l low + times * sum_l high

-- the sum in two vectors has grown by the squares of the samples
abbrev pub HasGrown : ℕ → List ℕ → List ℕ → List ℤ → List ℕ → List ℕ → Type 0
HasGrown times low high xs new_low new_high =
    held_in times new_low new_high ≡ held_in times low high + sum_by square xs
